use Rattle.std.proofs.Common.{inl, inr, refl, pos, subst, arith}
use Rattle.std.proofs.lemmas.Result.{IfOk-from_err}
use Rattle.pf_base.proofs.Outcomes.{refused_as}
use Rattle.pf_residual.specs.Capacities.{AreTaken, IsFirstFault}
use Rattle.pf_residual.proofs.FillLemmas.{fresh_kept, network_of_unused, unused_of_fresh}
use Rattle.pf_flow.proofs.edmonds_karp.EdmondsKarp.from_edges.Goals as goal

pub put_all-requires-clause-unused : goal.put_all-requires-clause-unused
put_all-requires-clause-unused g c = unused_of_fresh c.in_ok-store.ensures.fresh c.in_ok-store.ensures.network

pub put_all-requires-clause-none : goal.put_all-requires-clause-none
put_all-requires-clause-none g c = c.in_ok-store.ensures.capacities

pub returns-clause-network : goal.returns-clause-network
returns-clause-network g c = network_of_unused c.in_ok-put_all.ensures.unused

pub returns-clause-fresh : goal.returns-clause-fresh
returns-clause-fresh g c = fresh_kept c.in_ok-put_all.ensures.unused c.in_ok-store.ensures.fresh c.in_ok-put_all.ensures.shape

pub returns-clause-capacities : goal.returns-clause-capacities
returns-clause-capacities g c = c.in_ok-put_all.ensures.capacities

pub returns-then-source-size-clause-refused : goal.returns-then-source-size-clause-refused
returns-then-source-size-clause-refused g c = inr (inl (
  refl,
  elim c.then-source-size.either [
    | inl l ↦ inl (λ m. omega (arith, l, m))
    | inr l ↦ inr (λ m. omega (arith, l.1, m))
  ],
))

pub new-requires-clause-source : goal.new-requires-clause-source
new-requires-clause-source g c = c.if-source-size.false

pub new-requires-clause-sink : goal.new-requires-clause-sink
new-requires-clause-sink g c = c.if-sink-size.false

pub returns-in_err-store-clause-fresh : goal.returns-in_err-store-clause-fresh
returns-in_err-store-clause-fresh g c = IfOk-from_err _ _ c.from_residual.ensures.0

pub returns-in_err-store-clause-taken : goal.returns-in_err-store-clause-taken
returns-in_err-store-clause-taken g c = IfOk-from_err _ _ c.from_residual.ensures.0

pub returns-in_err-store-clause-capacities : goal.returns-in_err-store-clause-capacities
returns-in_err-store-clause-capacities g c = IfOk-from_err _ _ c.from_residual.ensures.0

pub returns-in_err-store-clause-network : goal.returns-in_err-store-clause-network
returns-in_err-store-clause-network g c = IfOk-from_err _ _ c.from_residual.ensures.0

pub returns-in_err-store-clause-refused : goal.returns-in_err-store-clause-refused
returns-in_err-store-clause-refused g c = refused_as _ c.from_residual.result _ c.from_residual.ensures.1 (inl c.in_err-store.ensures.refused)

pub returns-in_err-put_all-clause-fresh : goal.returns-in_err-put_all-clause-fresh
returns-in_err-put_all-clause-fresh g c = IfOk-from_err _ _ c.from_residual-in_err-put_all.ensures.0

pub returns-in_err-put_all-clause-taken : goal.returns-in_err-put_all-clause-taken
returns-in_err-put_all-clause-taken g c = IfOk-from_err _ _ c.from_residual-in_err-put_all.ensures.0

pub returns-in_err-put_all-clause-capacities : goal.returns-in_err-put_all-clause-capacities
returns-in_err-put_all-clause-capacities g c = IfOk-from_err _ _ c.from_residual-in_err-put_all.ensures.0

pub returns-in_err-put_all-clause-network : goal.returns-in_err-put_all-clause-network
returns-in_err-put_all-clause-network g c = IfOk-from_err _ _ c.from_residual-in_err-put_all.ensures.0

pub returns-in_err-put_all-clause-refused : goal.returns-in_err-put_all-clause-refused
returns-in_err-put_all-clause-refused g c =
    refused_as _ c.from_residual-in_err-put_all.result _ c.from_residual-in_err-put_all.ensures.1 (elim c.in_err-put_all.ensures.refused [
      | inl r ↦ inl r
      | inr r ↦ inr (inr (c.if-source-size.false, c.if-sink-size.false, subst (λ n. IsFirstFault g.C.Number.value g.C.Number.fits n c.args.edges.now c.in_err-put_all.field-0.0) c.in_ok-store.ensures.fresh.vertices r))
    ])

pub returns-clause-taken : goal.returns-clause-taken
returns-clause-taken g c = subst (λ n. AreTaken g.C.Number.value g.C.Number.fits n (λ a b. pos 0) c.args.edges.now) c.in_ok-store.ensures.fresh.vertices c.in_ok-put_all.ensures.taken
