use Rattle.std.proofs.Common.{◌∙◌, ℤ, Some, ap, sym}
use Rattle.std.proofs.lemmas.List.{take_all}
use Rattle.pf_grid.specs.Coordinates.{numbers_of, offsets_of, positions_from}
use Rattle.pf_grid.proofs.CoordinateLemmas.{numbers_more, positions_empty, positions_more, positions_none}
use Rattle.pf_grid.proofs.grid.from_coordinates.offsets.Goals as goal

pub returns-in_default-clause-made : goal.returns-in_default-clause-made
returns-in_default-clause-made g c =
    ap (λ ps. offsets_of (numbers_of g.T.Coordinate.value ps)) c.in_default.ensures ∙ positions_empty _ ∙ ap Some (sym c.in_ok-positions.ensures.items)

pub loop-point-init : goal.loop-point-init
loop-point-init g c = positions_empty _ ∙ ap Some (sym c.in_ok-positions.ensures.items)

pub returns-in_default-position_from-clause-made : goal.returns-in_default-position_from-clause-made
returns-in_default-position_from-clause-made g c =
    let value = g.T.Coordinate.value in
    let ps = c.args.points.now in
    let none = positions_none (value c.in-Some.least.0, value c.in-Some.least.1) value ps c.loop-point.point-index c.point-item.result c.loop-point-test.true c.point-item.is (sym c.position_from.ensures ∙ c.in_default-position_from.is) in
    ap (λ least. positions_from least (numbers_of value ps)) c.in-Some.ensures ∙ none

pub loop-point-preserved : goal.loop-point-preserved
loop-point-preserved g c =
    let value = g.T.Coordinate.value in
    let least : ℤ × ℤ = (value c.in-Some.least.0, value c.in-Some.least.1) in
    ap (positions_from least) (numbers_more value c.args.points.now c.loop-point.point-index c.point-item.result c.loop-point-test.true c.point-item.is)
    ∙ positions_more least _ _ _ _ c.loop-point.invariant (sym c.position_from.ensures ∙ c.in-Some-position_from.is)
    ∙ ap Some (sym c.in_ok-push.ensures.items)

pub returns-clause-made : goal.returns-clause-made
returns-clause-made g c =
    let value = g.T.Coordinate.value in
    let ps = c.args.points.now in
    let all = take_all c.loop-point.point-index ps c.loop-point-test.false in
    ap (λ least. positions_from least (numbers_of value ps)) c.in-Some.ensures
    ∙ ap (λ qs. positions_from (value c.in-Some.least.0, value c.in-Some.least.1) (numbers_of value qs)) (sym all)
    ∙ c.loop-point.invariant
