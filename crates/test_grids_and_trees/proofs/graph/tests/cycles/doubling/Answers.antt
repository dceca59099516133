use Rattle.std.proofs.Common.{rules, ◌≡◌, sym, subst, true, nat_eq, ◌<◌, ◌*◌, ◌%◌, ℕ, arith}
use Rattle.pf_base.proofs.Callers.{nat_refl}
use Rattle.pf_cycles.proofs.StepCallers.{nat_step}
use Rattle.test_grids_and_trees.proofs.graph.tests.cycles.doubling.Goals as goal

-- twice a number modulo 7
abbrev doubled : ℕ → ℕ
doubled x = x * 2 % 7

below : (x : ℕ) → x < 7 → doubled x < 7
below x j = omega arith

pub answers-requires : goal.answers-requires
answers-requires c = (omega arith, ((λ x y e. subst (λ z. nat_eq x z ≡ true) (sym e) (nat_refl x)), (doubled, nat_step doubled 1 (λ x. x < 7) (omega arith) below (λ x j. search rules) (λ x r j p. search rules))))
