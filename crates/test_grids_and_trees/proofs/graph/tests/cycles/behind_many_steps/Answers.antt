use Rattle.std.proofs.Common.{rules, ◌≡◌, sym, subst, true, ℤ, pos, negsuc, arith, if◌then◌else◌}
use Rattle.std.specs.Prelude.{◌≤ℤ◌, ◌+ℤ◌}
use Rattle.std.specs.Ordering.{int_eq}
use Rattle.std.proofs.lemmas.Int.{ints}
use Rattle.std.proofs.lemmas.Cmp.{int_eq_equiv}
use Rattle.pf_cycles.proofs.StepCallers.{int_step}
use Rattle.test_grids_and_trees.proofs.graph.tests.cycles.behind_many_steps.Goals as goal

-- the next number, and 0 after 10
abbrev turned : ℤ → ℤ
turned x = if int_eq x (pos 10) then pos 0 else x +ℤ pos 1

abbrev IsBefore : ℤ → Type 0
IsBefore x = (negsuc 99 ≤ℤ x) × (x ≤ℤ pos 10)

keeps : (x : ℤ) → IsBefore x → IsBefore (turned x)
keeps x j = grind (arith, ints)

pub answers-requires : goal.answers-requires
answers-requires c = (omega arith, ((λ x y e. subst (λ z. int_eq x z ≡ true) (sym e) (int_eq_equiv.refl x)), (turned, int_step turned (negsuc 99) IsBefore (omega (arith, ints), omega (arith, ints)) keeps (λ x j. search rules) (λ x r j p. search rules))))
