use Rattle.std.proofs.Common.{◌∙◌, inl, inr, refl, pos, subst, arith}
use Rattle.std.proofs.lemmas.Result.{IfOk-from_err}
use Rattle.pf_base.proofs.Outcomes.{refused_as}
use Rattle.pf_residual.specs.Capacities.{AreTaken, IsFirstFault}
use Rattle.pf_residual.proofs.FillLemmas.{fresh_kept, network_of_unused, unused_of_fresh}
use Rattle.pf_flow.proofs.sparse_capacity.SparseCapacityEdmondsKarp.from_edges.Goals as goal

pub returns-clause-network : goal.returns-clause-network
returns-clause-network g c = network_of_unused c.in_ok-put_all.ensures.unused

pub returns-then-source-size-clause-refused : goal.returns-then-source-size-clause-refused
returns-then-source-size-clause-refused g c = inr (inl (
  refl,
  elim c.then-source-size.either [
    | inl l ↦ inl (λ m. omega (arith, l, m))
    | inr l ↦ inr (λ m. omega (arith, l.1, m))
  ],
))

pub returns-in_err-rows-clause-fresh : goal.returns-in_err-rows-clause-fresh
returns-in_err-rows-clause-fresh g c = IfOk-from_err _ _ c.from_residual.ensures.0

pub returns-in_err-rows-clause-taken : goal.returns-in_err-rows-clause-taken
returns-in_err-rows-clause-taken g c = IfOk-from_err _ _ c.from_residual.ensures.0

pub returns-in_err-rows-clause-capacities : goal.returns-in_err-rows-clause-capacities
returns-in_err-rows-clause-capacities g c = IfOk-from_err _ _ c.from_residual.ensures.0

pub returns-in_err-rows-clause-network : goal.returns-in_err-rows-clause-network
returns-in_err-rows-clause-network g c = IfOk-from_err _ _ c.from_residual.ensures.0

pub returns-in_err-put_all-clause-fresh : goal.returns-in_err-put_all-clause-fresh
returns-in_err-put_all-clause-fresh g c = IfOk-from_err _ _ c.from_residual-in_err-put_all.ensures.0

pub returns-in_err-put_all-clause-taken : goal.returns-in_err-put_all-clause-taken
returns-in_err-put_all-clause-taken g c = IfOk-from_err _ _ c.from_residual-in_err-put_all.ensures.0

pub returns-in_err-put_all-clause-capacities : goal.returns-in_err-put_all-clause-capacities
returns-in_err-put_all-clause-capacities g c = IfOk-from_err _ _ c.from_residual-in_err-put_all.ensures.0

pub returns-in_err-put_all-clause-network : goal.returns-in_err-put_all-clause-network
returns-in_err-put_all-clause-network g c = IfOk-from_err _ _ c.from_residual-in_err-put_all.ensures.0

pub returns-in_err-rows-clause-refused : goal.returns-in_err-rows-clause-refused
returns-in_err-rows-clause-refused g c = refused_as _ c.from_residual.result _ c.from_residual.ensures.1 (inl c.in_err-rows.ensures.refused)

pub store_of-store-requires-clause-empty : goal.store_of-store-requires-clause-empty
store_of-store-requires-clause-empty g c = c.in_ok-rows.ensures.empty

pub store_of-store-requires-clause-source : goal.store_of-store-requires-clause-source
store_of-store-requires-clause-source g c = omega (arith, c.if-source-size.false, c.in_ok-rows.ensures.len)

pub store_of-store-requires-clause-sink : goal.store_of-store-requires-clause-sink
store_of-store-requires-clause-sink g c = omega (arith, c.if-sink-size.false, c.in_ok-rows.ensures.len)

pub put_all-requires-clause-unused : goal.put_all-requires-clause-unused
put_all-requires-clause-unused g c = unused_of_fresh c.store_of-store.ensures.fresh c.store_of-store.ensures.network

pub put_all-requires-clause-none : goal.put_all-requires-clause-none
put_all-requires-clause-none g c = c.store_of-store.ensures.capacities

pub returns-in_err-put_all-clause-refused : goal.returns-in_err-put_all-clause-refused
returns-in_err-put_all-clause-refused g c =
    let same = c.store_of-store.ensures.fresh.vertices ∙ c.in_ok-rows.ensures.len in
    refused_as _ c.from_residual-in_err-put_all.result _ c.from_residual-in_err-put_all.ensures.1 (elim c.in_err-put_all.ensures.refused [
      | inl r ↦ inl r
      | inr r ↦ inr (inr (c.if-source-size.false, c.if-sink-size.false, subst (λ n. IsFirstFault g.C.Number.value g.C.Number.fits n c.args.edges.now c.in_err-put_all.field-0.0) same r))
    ])

pub returns-clause-fresh : goal.returns-clause-fresh
returns-clause-fresh g c =
    let f = c.store_of-store.ensures.fresh in
    fresh_kept c.in_ok-put_all.ensures.unused (record { vertices = f.vertices ∙ c.in_ok-rows.ensures.len; source = f.source; sink = f.sink; flow = f.flow; total = f.total; details = f.details }) c.in_ok-put_all.ensures.shape

pub returns-clause-taken : goal.returns-clause-taken
returns-clause-taken g c = subst (λ n. AreTaken g.C.Number.value g.C.Number.fits n (λ a b. pos 0) c.args.edges.now) (c.store_of-store.ensures.fresh.vertices ∙ c.in_ok-rows.ensures.len) c.in_ok-put_all.ensures.taken

pub returns-clause-capacities : goal.returns-clause-capacities
returns-clause-capacities g c = c.in_ok-put_all.ensures.capacities
