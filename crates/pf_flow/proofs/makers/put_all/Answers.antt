use Rattle.std.proofs.Common.{◌<◌, ◌∙◌, ◌++◌, ◌∷◌, [], ℕ, List, inl, inr, refl, sym, subst, ap, pos, take, arith}
use Rattle.std.proofs.lemmas.List.{take_more, take_all}
use Rattle.std.proofs.lemmas.Result.{IfOk-from_err}
use Rattle.pf_residual.specs.Capacities.{AreTaken, edge_table}
use Rattle.pf_residual.specs.Networks.{HasCapacities}
use Rattle.pf_base.proofs.Outcomes.{refused_as}
use Rattle.pf_residual.proofs.AgreeLemmas.{capacities_kept, shape_more}
use Rattle.pf_residual.proofs.EdgeLemmas.{first_fault, held_more, put_refused_at}
use Rattle.pf_residual.proofs.NetworkLemmas.{none_sum}
use Rattle.pf_flow.proofs.makers.put_all.Goals as goal
use Rattle.pf_flow.proofs.makers.put_all.Goals.{then-from-size-via-then-from-size, then-from-size-via-else-from-size+then-to-size}

pub edges-init : goal.edges-init
edges-init g c =
    let N = g.S.FlowStore.network c.args.store.now in
    let zero = ap g.C.Number.value c.zero-sum.ensures ∙ g.met.C.Zero.zero_law g.met.C.Integral.exact_law in
    record {
      shape = (capacities_kept N).shape;
      unused = c.requires.unused;
      sum = zero ∙ sym (none_sum N c.requires.none);
      held = record { vertices = (capacities_kept N).shape.vertices; taken = tt; capacities = c.requires.none };
    }

pub edges-preserved : goal.edges-preserved
edges-preserved g c =
    let N = g.S.FlowStore.network c.args.store.now in
    let i = c.edges.invariant in
    let e = c.edge-item.result in
    let all = c.args.edges.now in
    let changed = c.in_ok-sum.ensures.changed in
    let from : e.0.0 < N.vertices = omega (arith, c.if-from-size.false, c.size-size.ensures) in
    let to : e.0.1 < N.vertices = omega (arith, c.if-to-size.false, c.size-size.ensures) in
    record {
      shape = shape_more i.shape changed.shape;
      unused = c.in_ok-sum.ensures.unused;
      sum = c.in_ok-sum.ensures.sum;
      held = held_more g.C.Number.value g.C.Number.fits N.vertices (take c.edges.edge-index all) i.held e from to _ (take_more all c.edges.edge-index e c.edges-test.true ∙ ap (λ x. take c.edges.edge-index all ++ x ∷ []) (sym c.edge-item.is)) changed c.in_ok-sum.ensures.unused;
    }

pub returns-then-from-size-clause-refused : goal.returns-then-from-size-clause-refused
returns-then-from-size-clause-refused g c =
    let N = g.S.FlowStore.network c.args.store.now in
    let e = c.edge-item.result in
    let size = c.size-size.ensures in
    inr (first_fault g.C.Number.value g.C.Number.fits N.vertices c.args.edges.now c.edges.edge-index e _ c.edges-test.true c.edge-item.is c.edges.invariant.held (inl (
      refl,
      elim c.then-from-size.branch [
        | then-from-size-via-then-from-size w ↦ inl (λ l. omega (arith, w.if-from-size.true, size, l))
        | then-from-size-via-else-from-size+then-to-size w ↦ inr (λ l. omega (arith, w.if-to-size.true, size, l))
      ],
    )))

pub returns-in_err-sum-clause-refused : goal.returns-in_err-sum-clause-refused
returns-in_err-sum-clause-refused g c =
    let N = g.S.FlowStore.network c.args.store.now in
    let e = c.edge-item.result in
    let from : e.0.0 < N.vertices = omega (arith, c.if-from-size.false, c.size-size.ensures) in
    let to : e.0.1 < N.vertices = omega (arith, c.if-to-size.false, c.size-size.ensures) in
    refused_as _ c.from_residual.result _ c.from_residual.ensures.1
    (put_refused_at g.C.Number.value g.C.Number.fits N.vertices c.args.edges.now c.edges.edge-index e _ c.edges-test.true c.edge-item.is c.edges.invariant.held from to c.in_err-sum.ensures.refused)

pub offset_bounds-edges-edge-index : goal.offset_bounds-edges-edge-index
offset_bounds-edges-edge-index g c = c.edges.auto.edge-index-end

pub bounds-edges-edge-index : goal.bounds-edges-edge-index
bounds-edges-edge-index g c = c.edges-test.true

pub put_capacity-requires-clause-unused : goal.put_capacity-requires-clause-unused
put_capacity-requires-clause-unused g c = c.edges.invariant.unused

pub put_capacity-requires-clause-sum : goal.put_capacity-requires-clause-sum
put_capacity-requires-clause-sum g c = c.edges.invariant.sum

pub put_capacity-requires-clause-from : goal.put_capacity-requires-clause-from
put_capacity-requires-clause-from g c = omega (arith, c.if-from-size.false, c.size-size.ensures, c.edges.invariant.shape.vertices)

pub put_capacity-requires-clause-to : goal.put_capacity-requires-clause-to
put_capacity-requires-clause-to g c = omega (arith, c.if-to-size.false, c.size-size.ensures, c.edges.invariant.shape.vertices)

pub returns-in_err-sum-clause-unused : goal.returns-in_err-sum-clause-unused
returns-in_err-sum-clause-unused g c = IfOk-from_err _ _ c.from_residual.ensures.0

pub returns-in_err-sum-clause-shape : goal.returns-in_err-sum-clause-shape
returns-in_err-sum-clause-shape g c = IfOk-from_err _ _ c.from_residual.ensures.0

pub returns-in_err-sum-clause-taken : goal.returns-in_err-sum-clause-taken
returns-in_err-sum-clause-taken g c = IfOk-from_err _ _ c.from_residual.ensures.0

pub returns-in_err-sum-clause-capacities : goal.returns-in_err-sum-clause-capacities
returns-in_err-sum-clause-capacities g c = IfOk-from_err _ _ c.from_residual.ensures.0

pub edges-smaller : goal.edges-smaller
edges-smaller g c = omega (arith, c.edges-test.true)

pub returns-clause-unused : goal.returns-clause-unused
returns-clause-unused g c = c.edges.invariant.unused

pub returns-clause-shape : goal.returns-clause-shape
returns-clause-shape g c = c.edges.invariant.shape

pub returns-clause-taken : goal.returns-clause-taken
returns-clause-taken g c =
    let N = g.S.FlowStore.network c.args.store.now in
    subst (λ (xs : List ((ℕ × ℕ) × g.row.C.Denot)). AreTaken g.C.Number.value g.C.Number.fits N.vertices (λ a b. pos 0) xs) (take_all c.edges.edge-index c.args.edges.now c.edges-test.false) c.edges.invariant.held.taken

pub returns-clause-capacities : goal.returns-clause-capacities
returns-clause-capacities g c =
    subst (λ (xs : List ((ℕ × ℕ) × g.row.C.Denot)). HasCapacities (edge_table g.C.Number.value xs) (g.S.FlowStore.network c.edges.store)) (take_all c.edges.edge-index c.args.edges.now c.edges-test.false) c.edges.invariant.held.capacities
