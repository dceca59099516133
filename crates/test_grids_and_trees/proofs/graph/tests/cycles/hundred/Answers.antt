use Rattle.std.proofs.Common.{rules, ◌≡◌, sym, subst, true, nat_eq, ◌<◌, ◌+◌, ◌%◌, ℕ, arith}
use Rattle.pf_base.proofs.Callers.{nat_refl}
use Rattle.pf_cycles.proofs.StepCallers.{nat_step}
use Rattle.test_grids_and_trees.proofs.graph.tests.cycles.hundred.Goals as goal

-- the next number modulo 100
abbrev risen : ℕ → ℕ
risen x = (x + 1) % 100

below : (x : ℕ) → x < 100 → risen x < 100
below x j = omega arith

pub answers-requires : goal.answers-requires
answers-requires c = (omega arith, ((λ x y e. subst (λ z. nat_eq x z ≡ true) (sym e) (nat_refl x)), (risen, nat_step risen 0 (λ x. x < 100) (omega arith) below (λ x j. search rules) (λ x r j p. search rules))))
