use Rattle.std.proofs.Common.{◌≡◌, ◌∙◌, ◌+◌, ◌*◌, ap, sym, arith, false, ◌&&◌}
use Rattle.std.proofs.lemmas.List.{get_or_default}
use Rattle.pf_matrix.proofs.TableLemmas.{place_in}
use Rattle.pf_matrix.specs.Tables.{value_at}
use Rattle.pf_grid.specs.GridPositions.{grid_of}
use Rattle.pf_grid.proofs.CellLemmas.{put_more, same_grids}
use Rattle.pf_grid.proofs.MatrixLemmas.{all_before, none_before, row_before, table_more, table_to}
use Rattle.std.proofs.lemmas.Result.{IfOk-from_err}
use Rattle.pf_base.proofs.Outcomes.{refused_as}
use Rattle.pf_grid.specs.declared.error.GridError.TheVariants.{OutOfMemory}
use Rattle.pf_grid.proofs.grid.Grid.from_matrix.Goals as goal

pub loop-y-init : goal.loop-y-init
loop-y-init g c =
    c.in_ok-grid.ensures.made ∙ same_grids c.columns-width.result c.rows-height.result false (λ x y. false) (table_to c.args.matrix.now 0 0) (λ x y p q. sym (ap (λ b. b && value_at c.args.matrix.now y x false) (none_before x y)))

pub loop-x-preserved : goal.loop-x-preserved
loop-x-preserved g c =
    let m = c.args.matrix.now in
    let w = c.columns-width.result in
    let h = c.rows-height.result in
    let x = c.loop-x.x in
    let y = c.loop-y.y in
    let v = c.index.result.now in
    let inside = place_in m c.columns-width.ensures.matrix y x (omega (arith, c.loop-y-test.true, c.rows-height.ensures.rows)) (omega (arith, c.loop-x-test.true, c.columns-width.ensures.columns)) in
    let value : v ≡ value_at m y x false = c.index.ensures ∙ sym (get_or_default m.values (y * m.columns + x) false v inside) in
    put_more (grid_of w h false (λ x y. false)) c.loop-x.grid c.put.new.self (x, y) v (table_to m x y) (table_to m (x + 1) y) c.loop-x.invariant c.put.ensures (λ i j p q. table_more m x y v value i j)

pub loop-y-preserved : goal.loop-y-preserved
loop-y-preserved g c =
    let m = c.args.matrix.now in
    let w = c.columns-width.result in
    let h = c.rows-height.result in
    let x = c.loop-x.x in
    let y = c.loop-y.y in
    c.loop-x.invariant ∙ same_grids w h false (table_to m x y) (table_to m 0 (y + 1)) (λ i j p q. ap (λ b. b && value_at m j i false) (row_before w x y i j (omega arith) p))

pub returns-clause-made : goal.returns-clause-made
returns-clause-made g c =
    let m = c.args.matrix.now in
    let w = c.columns-width.result in
    let h = c.rows-height.result in
    let y = c.loop-y.y in
    c.loop-y.invariant ∙ same_grids w h false (table_to m 0 y) (λ i j. value_at m j i false) (λ i j p q. ap (λ b. b && value_at m j i false) (all_before h y i j (omega arith) q))
    ∙ (λ k. grid_of (c.columns-width.ensures.columns k) (c.rows-height.ensures.rows k) false (λ i j. value_at m j i false))

pub returns-in_err-grid : goal.returns-in_err-grid
returns-in_err-grid g c = record {
  made = IfOk-from_err _ _ c.from_residual.ensures.0;
  refused = refused_as (λ e. e ≡ OutOfMemory) c.from_residual.result c.in_err-grid.field-0.0 c.from_residual.ensures.1 c.in_err-grid.ensures.refused;
}

pub returns-clause-refused : goal.returns-clause-refused
returns-clause-refused g c = tt

pub loop-x-init : goal.loop-x-init
loop-x-init g c = c.loop-y.invariant

pub index-requires : goal.index-requires
index-requires g c = (omega (arith, c.loop-y-test.true, c.rows-height.ensures.rows), omega (arith, c.loop-x-test.true, c.columns-width.ensures.columns))

pub put-requires : goal.put-requires
put-requires g c = (omega (arith, ap (λ t. t.width) c.loop-x.invariant, c.loop-x-test.true), omega (arith, ap (λ t. t.height) c.loop-x.invariant, c.loop-y-test.true))

pub loop-x-smaller : goal.loop-x-smaller
loop-x-smaller g c = omega (arith, c.loop-x-test.true)

pub loop-y-smaller : goal.loop-y-smaller
loop-y-smaller g c = omega (arith, c.loop-y-test.true)
