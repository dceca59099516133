use Rattle.std.proofs.Common.{◌≡◌, ◌∙◌, ◌||◌, ◌&&◌, not, true, false, Bool, sym, ap, refl, true≢false}
use Rattle.std.specs.Prelude.{if◌then◌else◌}
use Rattle.pf_grid.specs.GridPositions.{is_inside, is_position, has}
use Rattle.pf_grid.proofs.CellLemmas.{already, and_no, outside_no, unchanged, grid_from_view, same_grids}
use Rattle.pf_grid.proofs.grid.Grid.add_vertex.Goals as goal
use Rattle.pf_grid.proofs.grid.Grid.add_vertex.Goals.{then-is_inside, else-is_inside}

if_or : (p o : Bool) → (if p then true else o) ≡ (p || o)
if_or true o = refl
if_or false o = refl

pub returns-then-missing-clause-added : goal.returns-then-missing-clause-added
returns-then-missing-clause-added g c =
    let now = c.args.self.now in
    c.flip.ensures ∙ same_grids now.width now.height now.diagonal _ _ (λ x y p q. if_or (is_position c.args.position x y) (has now x y))

pub returns-else-missing-clause-added : goal.returns-else-missing-clause-added
returns-else-missing-clause-added g c = unchanged c.args.self.now _ (grid_from_view _ _ _ _ _ c.self.view_is c.self.invariant.fits) (already c.args.self.now c.args.position (elim c.if-is_inside.branch as (λ _. (is_inside c.args.self.now c.args.position.0 c.args.position.1 && not (has c.args.self.now c.args.position.0 c.args.position.1)) ≡ false) [
  | then-is_inside w ↦ and_no (is_inside c.args.self.now c.args.position.0 c.args.position.1) _ (ap not (sym w.has_vertex.ensures) ∙ sym w.missing-is ∙ c.if-missing.false)
  | else-is_inside w ↦ ap (λ t. t && not (has c.args.self.now c.args.position.0 c.args.position.1)) (outside_no c.args.self.now _ _ (λ i. true≢false (sym (c.is_inside.ensures.1 i) ∙ w.if-is_inside.false)))
]))
