use Rattle.std.proofs.Common.{arith, ℕ, ◌<◌, ◌≡◌, refl, length, Some, slice_get}
use Rattle.std.proofs.lemmas.Option.{slice_get_read}
use Rattle.pf_edge_lists.proofs.EdgeListLemmas.{one_more_edge}
use Rattle.pf_edge_lists.proofs.edge_list.negative_edge.Goals as goal

none_below : {k : ℕ} → k < 0 → ⊥
none_below l = omega arith

pub loop-number-init : goal.loop-number-init
loop-number-init g c = λ k e l h. absurd (none_below l)

pub returns-then-is_negative : goal.returns-then-is_negative
returns-then-is_negative g c =
    let edges = c.args.edges.now in
    let e = c.index-edges-number.result in
    let stands : slice_get edges c.loop-number.number ≡ Some e = slice_get_read edges (length edges) c.loop-number.number e refl c.loop-number-test.true c.index-edges-number.is in
    ((e, stands, c.if-is_negative.ensures), c.loop-number.invariant)

pub loop-number-preserved : goal.loop-number-preserved
loop-number-preserved g c =
    let edges = c.args.edges.now in
    let e = c.index-edges-number.result in
    let stands : slice_get edges c.loop-number.number ≡ Some e = slice_get_read edges (length edges) c.loop-number.number e refl c.loop-number-test.true c.index-edges-number.is in
    one_more_edge g.C.Number.value edges c.loop-number.number e stands c.if-is_negative.ensures c.loop-number.invariant

pub loop-number-smaller : goal.loop-number-smaller
loop-number-smaller g c = omega (arith, c.loop-number-test.true)

pub bounds-edges-number : goal.bounds-edges-number
bounds-edges-number g c = c.loop-number-test.true

pub returns : goal.returns
returns g c = λ k e l h. c.loop-number.invariant k e (omega (arith, l, c.loop-number-test.false)) h
