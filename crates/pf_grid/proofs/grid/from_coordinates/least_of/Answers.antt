use Rattle.std.proofs.Common.{◌∙◌, ap, sym}
use Rattle.std.specs.Int.{int_min}
use Rattle.std.proofs.lemmas.List.{take_all}
use Rattle.pf_grid.specs.Coordinates.{least_of, least_with, numbers_of}
use Rattle.pf_grid.proofs.CoordinateLemmas.{least_more, least_none, numbers_more, value_min}
use Rattle.pf_grid.proofs.grid.from_coordinates.least_of.Goals as goal

pub loop-point-init : goal.loop-point-init
loop-point-init g c = record { across = least_none _ _; down = least_none _ _ }

pub loop-point-preserved : goal.loop-point-preserved
loop-point-preserved g c =
    let value = g.T.Coordinate.value in
    let law = g.met.T.Coordinate.order_law in
    let more = numbers_more value c.in_ok-first.rest.now c.loop-point.point-index c.point-item.result c.loop-point-test.true c.point-item.is in
    record {
      across = ap value c.min-x.ensures ∙ value_min _ value law _ _ ∙ ap (λ z. int_min z (value c.point-item.result.0)) c.loop-point.invariant.across ∙ sym (least_more _ _ _ _) ∙ ap (least_with (λ p. p.0) _) (sym more);
      down = ap value c.min-y.ensures ∙ value_min _ value law _ _ ∙ ap (λ z. int_min z (value c.point-item.result.1)) c.loop-point.invariant.down ∙ sym (least_more _ _ _ _) ∙ ap (least_with (λ p. p.1) _) (sym more);
    }

pub returns : goal.returns
returns g c =
    let value = g.T.Coordinate.value in
    let first = c.in_ok-first.first.now in
    let all = take_all c.loop-point.point-index c.in_ok-first.rest.now c.loop-point-test.false in
    let across = c.loop-point.invariant.across ∙ ap (λ ps. least_with (λ p. p.0) (value first.0) (numbers_of value ps)) all in
    let down = c.loop-point.invariant.down ∙ ap (λ ps. least_with (λ p. p.1) (value first.1) (numbers_of value ps)) all in
    ap (λ ps. least_of (numbers_of value ps)) c.in_ok-first.ensures.cases.0 ∙ (λ i. (sym across i, sym down i))
