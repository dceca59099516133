use Rattle.std.proofs.Common.{ℕ, ◌<◌, ◌+◌, arith, ap, ◌∙◌, add-one}
use Rattle.std.specs.Prelude.{slice_index, ◌+ℤ◌}
use Rattle.std.proofs.lemmas.Int.{ints}
use Rattle.pf_assignment.proofs.MatchingWeights.{room, sum_to-bound}
use Rattle.pf_base.specs.Sums.{sum_to}
use Rattle.pf_assignment.proofs.kuhn_munkres.totals.total_of.Goals as goal

pub plus-total-requires : goal.plus-total-requires
plus-total-requires g c =
    let t = g.W.Weights.table c.args.weights.now in
    let w = c.requires.weights_fit.greatest in
    let f = λ (r : ℕ). t.at r (slice_index c.args.column_of.now r) in
    let e = c.at.ensures in
    let i = c.loop-row.invariant in
    let row : c.loop-row.row < t.rows = omega arith in
    let inside = λ (r : ℕ) (h : r < t.rows). c.requires.weights_fit.is_greatest.bound r (slice_index c.args.column_of.now r) h (c.requires.assignment.inside r h) in
    let s = sum_to-bound w f c.loop-row.row (λ r h. inside r (omega (arith, h, row))) in
    let s0 = s.0 in
    let s1 = s.1 in
    let b = inside c.loop-row.row row in
    let b0 = b.0 in
    let b1 = b.1 in
    room g.C.Number.fits (λ x y z. g.C.Number.between_law x y z g.met.C.Integral.exact_law) t c.requires.weights_fit (c.loop-row.row + 1) (omega (arith, row)) _ (omega (arith, ints, b0, s0, e, i)) (omega (arith, ints, b1, s1, e, i))

pub loop-row-preserved : goal.loop-row-preserved
loop-row-preserved g c =
    let value = g.C.Number.value in
    let t = g.W.Weights.table c.args.weights.now in
    let f = λ (r : ℕ). t.at r (slice_index c.args.column_of.now r) in
    rw add-one (c.plus-total.ensures ∙ ap (λ z. z +ℤ value c.at.result) c.loop-row.invariant ∙ ap (λ z. sum_to f c.loop-row.row +ℤ z) c.at.ensures)
