use Rattle.std.proofs.Common.{◌<◌, ap, sym, arith}
use Rattle.std.specs.Prelude.{if◌then◌else◌}
use Rattle.pf_grid.specs.GridPositions.{has}
use Rattle.pf_grid.specs.Borders.{is_border}
use Rattle.pf_grid.proofs.CellLemmas.{grid_from_view, unchanged}
use Rattle.pf_grid.proofs.BorderLemmas.{in_rows, in_both, column_more, row_more, none_yet, all_columns, all_rows, same_test}
use Rattle.pf_grid.proofs.grid.Grid.set_borders.Goals as goal
use Rattle.pf_grid.proofs.grid.Grid.set_borders.Goals.{then-width-eq0-via-then-width-eq0, then-width-eq0-via-else-width-eq0+then-height-eq0}

pub returns-then-width-eq0 : goal.returns-then-width-eq0
returns-then-width-eq0 g c =
    let wide = ap (λ t. t.width) c.self.view_is in
    let high = ap (λ t. t.height) c.self.view_is in
    unchanged c.args.self.now _ (grid_from_view _ _ _ _ _ c.self.view_is c.self.invariant.fits) (λ x y p q. absurd (elim c.then-width-eq0.branch as (λ _. ⊥) [
      | then-width-eq0-via-then-width-eq0 w ↦ omega (arith, wide, p, w.if-width-eq0.true)
      | then-width-eq0-via-else-width-eq0+then-height-eq0 w ↦ omega (arith, high, q, w.if-height-eq0.true)
    ]))

pub loop-x-init : goal.loop-x-init
loop-x-init g c =
    let now = c.args.self.now in
    unchanged now _ (grid_from_view _ _ _ _ _ c.self.view_is c.self.invariant.fits) (λ x y p q. sym (ap (λ t. if t then c.args.present else has now x y) (none_yet now.height x y)))

pub loop-x-preserved : goal.loop-x-preserved
loop-x-preserved g c =
    column_more c.args.self.now c.loop-x.self c.put.new.self c.put-in-loop-x.new.self c.self.inside.height c.loop-x.x c.args.present (ap (λ t. t.height) c.self.view_is) c.if-height-eq0.false c.loop-x.invariant c.put.ensures c.put-in-loop-x.ensures

pub loop-y-init : goal.loop-y-init
loop-y-init g c =
    let now = c.args.self.now in
    let wide = ap (λ t. t.width) c.self.view_is in
    same_test now c.loop-x.self c.args.present (in_rows now.height c.loop-x.x) (in_both now.width now.height 0) c.loop-x.invariant (λ x y p q.
    let k : x < c.loop-x.x = omega (arith, wide) in all_columns now.width now.height c.loop-x.x x y k)

pub loop-y-preserved : goal.loop-y-preserved
loop-y-preserved g c =
    row_more c.args.self.now c.loop-y.self c.put-in-loop-y.new.self c.put-in-loop-y-2.new.self c.self.inside.width c.loop-y.y c.args.present (ap (λ t. t.width) c.self.view_is) c.if-width-eq0.false c.loop-y.invariant c.put-in-loop-y.ensures c.put-in-loop-y-2.ensures

pub returns : goal.returns
returns g c =
    let now = c.args.self.now in
    let high = ap (λ t. t.height) c.self.view_is in
    same_test now c.loop-y.self c.args.present (in_both now.width now.height c.loop-y.y) (is_border now) c.loop-y.invariant (λ x y p q.
    let k : y < c.loop-y.y = omega (arith, high) in all_rows now.width now.height c.loop-y.y x y k)
