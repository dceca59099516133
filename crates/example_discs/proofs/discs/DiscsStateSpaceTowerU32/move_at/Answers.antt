use Rattle.std.proofs.Common.{rules, ◌≡◌, ◌∙◌, ◌<◌, ℕ, ap, sym, subst, arith, Some}
use Rattle.std.specs.Prelude.{slice_get}
use Rattle.example_discs.specs.Moves.{after, large_to, middle_to, moves_from}
use Rattle.example_discs.proofs.discs.DiscsStateSpaceTowerU32.move_at.Goals as goal

pub returns-in-2 : goal.returns-in-2
returns-in-2 c =
    let tower = c.args.tower.now in
    let moved = c.middle_to.ensures ∙ ap (middle_to tower) c.after-in-2.ensures in
    let place : c.args.place ≡ 2 = search rules in
    subst (λ (k : ℕ). slice_get (moves_from tower) k ≡ Some c.middle_to.result) (sym place) (ap Some (sym moved))

pub returns-in_default : goal.returns-in_default
returns-in_default c =
    let tower = c.args.tower.now in
    let moved = c.large_to-in_default.ensures ∙ ap (large_to tower) (c.after-in_default-2.ensures ∙ ap after c.after-in_default.ensures) in
    let low : c.args.place < 6 = c.requires in
    let place : c.args.place ≡ 5 = omega (arith, low, c.in_default) in
    subst (λ (k : ℕ). slice_get (moves_from tower) k ≡ Some c.large_to-in_default.result) (sym place) (ap Some (sym moved))
