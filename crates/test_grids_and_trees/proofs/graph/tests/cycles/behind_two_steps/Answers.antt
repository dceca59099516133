use Rattle.std.proofs.Common.{rules, ◌≡◌, sym, subst, true, ◌<◌, ℤ, pos, negsuc, arith}
use Rattle.std.specs.Prelude.{◌≤ℤ◌, ◌+ℤ◌, unsigned_abs, int_rem}
use Rattle.std.specs.Ordering.{int_eq}
use Rattle.std.proofs.lemmas.Int.{ints, rem_below}
use Rattle.std.proofs.lemmas.Cmp.{int_eq_equiv}
use Rattle.pf_cycles.proofs.StepCallers.{int_step}
use Rattle.test_grids_and_trees.proofs.graph.tests.cycles.behind_two_steps.Goals as goal

abbrev moved : ℤ → ℤ
moved x = int_rem (x +ℤ pos 5) (pos 6) +ℤ pos 3

abbrev IsNear : ℤ → Type 0
IsNear x = (negsuc 9 ≤ℤ x) × (x ≤ℤ pos 8)

near : (z : ℤ) → unsigned_abs z < 6 → IsNear (z +ℤ pos 3)
near (pos n) l = (omega (arith, ints), omega (arith, ints))
near (negsuc n) l = (omega (arith, ints), omega (arith, ints))

keeps : (x : ℤ) → IsNear x → IsNear (moved x)
keeps x j = near (int_rem (x +ℤ pos 5) (pos 6)) (rem_below (x +ℤ pos 5) (pos 6) (omega arith))

pub answers-requires : goal.answers-requires
answers-requires c = (omega arith, ((λ x y e. subst (λ z. int_eq x z ≡ true) (sym e) (int_eq_equiv.refl x)), (moved, int_step moved (negsuc 9) IsNear (omega (arith, ints), omega (arith, ints)) keeps (λ x j. search rules) (λ x r j p. search rules))))
