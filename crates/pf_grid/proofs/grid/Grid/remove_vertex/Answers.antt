use Rattle.std.proofs.Common.{◌≡◌, ◌∙◌, ◌&&◌, not, true, false, Bool, sym, refl}
use Rattle.std.specs.Prelude.{if◌then◌else◌}
use Rattle.pf_grid.specs.GridPositions.{is_position, has}
use Rattle.pf_grid.proofs.CellLemmas.{has_is_inside, never, unchanged, grid_from_view, same_grids}
use Rattle.pf_grid.proofs.grid.Grid.remove_vertex.Goals as goal

if_and : (p o : Bool) → (if p then false else o) ≡ (not p && o)
if_and true o = refl
if_and false o = refl

pub flip-requires : goal.flip-requires
flip-requires g c =
    let at = c.args.position in
    let there = sym c.has_vertex-there.ensures ∙ c.if-there.true in
    record { inside = has_is_inside c.args.self.now at.0 at.1 there; other = there }

pub returns-then-there-clause-removed : goal.returns-then-there-clause-removed
returns-then-there-clause-removed g c =
    let now = c.args.self.now in
    c.flip.ensures ∙ same_grids now.width now.height now.diagonal _ _ (λ x y p q. if_and (is_position c.args.position x y) (has now x y))

pub returns-else-there-clause-removed : goal.returns-else-there-clause-removed
returns-else-there-clause-removed g c = unchanged c.args.self.now _ (grid_from_view _ _ _ _ _ c.self.view_is c.self.invariant.fits) (λ x y p q. never c.args.self.now c.args.position (sym c.has_vertex-there.ensures ∙ c.if-there.false) x y)
