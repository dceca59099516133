use Rattle.std.proofs.Common.{arith, refl, ap, subst, ◌∙◌, ◌≡◌, Some, length}
use Rattle.std.specs.Prelude.{◌≤ℤ◌, ◌+ℤ◌, pos}
use Rattle.std.proofs.lemmas.Option.{slice_get_read, slice_get_within}
use Rattle.pf_estimated_graphs.specs.EstimatesInTables.{FallsAt, estimate_at}
use Rattle.pf_estimated_graphs.proofs.EstimateLemmas.{above, estimate_is, falls_there, not_above, one_more}
use Rattle.pf_estimated_graphs.proofs.checks.check_row.Goals as goal
use Rattle.pf_estimated_graphs.proofs.checks.check_row.Goals.{in_default-via-in-None-1, in_default-via-in-Some+else-exceeds}

pub returns-in-loop-place : goal.returns-in-loop-place
returns-in-loop-place g c =
    let value = g.C.Number.value in
    let xs = c.args.estimates.now in
    let at = c.edge.ensures ∙ ap Some c.in-Some.is in
    let here = estimate_is value xs c.args.node c.index-estimates-node.result (slice_get_read xs (length xs) c.args.node _ refl (omega (arith, c.requires.inside, c.requires.complete)) c.index-estimates-node.is) in
    let next = c.known.ensures.inside c.args.node c.loop-place.place c.in-Some.edge c.requires.inside at in
    let behind = estimate_is value xs c.in-Some.edge.0 c.index-estimates-edge.result (slice_get_read xs (length xs) c.in-Some.edge.0 _ refl (omega (arith, next, c.requires.complete)) c.index-estimates-edge.is) in
    (refl, (c.in-Some.edge, at, above _ _ (value c.in-Some.edge.1) _ _ here behind c.if-exceeds.ensures), c.loop-place.invariant)

pub loop-place-preserved : goal.loop-place-preserved
loop-place-preserved g c =
    let value = g.C.Number.value in
    let xs = c.args.estimates.now in
    let places = g.G.Graph.places c.args.graph.now in
    one_more (FallsAt value places xs c.args.node) c.loop-place.place (falls_there value places xs c.args.node c.loop-place.place c.edge.result c.edge.ensures
    (elim c.in_default.branch [
      | in_default-via-in-None-1 w ↦ λ edge e. absurd cc
      | in_default-via-in-Some+else-exceeds w ↦ λ edge e.
          let at = c.edge.ensures ∙ ap Some w.in-Some.is in
          let here = estimate_is value xs c.args.node w.index-estimates-node.result (slice_get_read xs (length xs) c.args.node _ refl (omega (arith, c.requires.inside, c.requires.complete)) w.index-estimates-node.is) in
          let next = c.known.ensures.inside c.args.node c.loop-place.place w.in-Some.edge c.requires.inside at in
          let behind = estimate_is value xs w.in-Some.edge.0 w.index-estimates-edge.result (slice_get_read xs (length xs) w.in-Some.edge.0 _ refl (omega (arith, next, c.requires.complete)) w.index-estimates-edge.is) in
          let same : w.in-Some.edge ≡ edge = cc in
          subst (λ d. estimate_at value xs c.args.node ≤ℤ (value d.1 +ℤ estimate_at value xs d.0)) same (not_above _ _ (value w.in-Some.edge.1) _ _ here behind w.if-exceeds.ensures)
    ])) c.loop-place.invariant

pub returns : goal.returns
returns g c = λ place edge h.
    let below = slice_get_within (g.G.Graph.places c.args.graph.now c.args.node) place (Some edge) h in
    c.loop-place.invariant place (omega (arith, below, c.places-place-end.ensures, c.loop-place-test.false)) edge h

pub places-place-end-requires : goal.places-place-end-requires
places-place-end-requires g c = c.requires.inside

pub loop-place-init : goal.loop-place-init
loop-place-init g c = λ k l. absurd (omega (arith, l))

pub edge-requires-clause-node : goal.edge-requires-clause-node
edge-requires-clause-node g c = c.requires.inside

pub edge-requires-clause-place : goal.edge-requires-clause-place
edge-requires-clause-place g c = omega (arith, c.loop-place-test.true, c.places-place-end.ensures)

pub offset_bounds-estimates-node : goal.offset_bounds-estimates-node
offset_bounds-estimates-node g c = omega (arith, c.requires.inside, c.requires.complete)

pub bounds-estimates-node : goal.bounds-estimates-node
bounds-estimates-node g c = omega (arith, c.requires.inside, c.requires.complete)

pub offset_bounds-estimates-edge : goal.offset_bounds-estimates-edge
offset_bounds-estimates-edge g c =
    let next = c.known.ensures.inside c.args.node c.loop-place.place c.in-Some.edge c.requires.inside (c.edge.ensures ∙ ap Some c.in-Some.is) in
    omega (arith, next, c.requires.complete)

pub bounds-estimates-edge : goal.bounds-estimates-edge
bounds-estimates-edge g c =
    let next = c.known.ensures.inside c.args.node c.loop-place.place c.in-Some.edge c.requires.inside (c.edge.ensures ∙ ap Some c.in-Some.is) in
    omega (arith, next, c.requires.complete)

pub exceeds-requires-clause-cost : goal.exceeds-requires-clause-cost
exceeds-requires-clause-cost g c = c.known.ensures.from_zero c.args.node c.loop-place.place c.in-Some.edge c.requires.inside (c.edge.ensures ∙ ap Some c.in-Some.is)

pub exceeds-requires-clause-behind : goal.exceeds-requires-clause-behind
exceeds-requires-clause-behind g c =
    let xs = c.args.estimates.now in
    let next = c.known.ensures.inside c.args.node c.loop-place.place c.in-Some.edge c.requires.inside (c.edge.ensures ∙ ap Some c.in-Some.is) in
    let behind = estimate_is g.C.Number.value xs c.in-Some.edge.0 c.index-estimates-edge.result (slice_get_read xs (length xs) c.in-Some.edge.0 _ refl (omega (arith, next, c.requires.complete)) c.index-estimates-edge.is) in
    subst (λ z. pos 0 ≤ℤ z) behind (c.requires.from_zero c.in-Some.edge.0 next)

pub loop-place-smaller : goal.loop-place-smaller
loop-place-smaller g c = omega (arith, c.loop-place-test.true)
