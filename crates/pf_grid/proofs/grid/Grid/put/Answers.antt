use Rattle.std.proofs.Common.{◌≡◌, ◌∙◌, Bool, true, false, not, ◌||◌, ◌&&◌, sym, refl}
use Rattle.std.specs.Prelude.{if◌then◌else◌}
use Rattle.pf_grid.specs.GridPositions.{has, is_position}
use Rattle.pf_grid.proofs.CellLemmas.{same_grids}
use Rattle.pf_grid.proofs.grid.Grid.put.Goals as goal

or_if : (v p o : Bool) → v ≡ true → (p || o) ≡ (if p then v else o)
or_if v true o e = sym e
or_if v false o e = refl

and_if : (v p o : Bool) → v ≡ false → (not p && o) ≡ (if p then v else o)
and_if v true o e = sym e
and_if v false o e = refl

pub returns-then-present : goal.returns-then-present
returns-then-present g c =
    let now = c.args.self.now in
    c.add_vertex.ensures.added ∙ same_grids now.width now.height now.diagonal _ _ (λ x y i j. or_if c.args.present (is_position c.args.position x y) (has now x y) c.if-present.true)

pub returns-else-present : goal.returns-else-present
returns-else-present g c =
    let now = c.args.self.now in
    c.remove_vertex.ensures.removed ∙ same_grids now.width now.height now.diagonal _ _ (λ x y i j. and_if c.args.present (is_position c.args.position x y) (has now x y) c.if-present.false)
