-- A move brings one disc at most to the goal.
use Rattle.std.proofs.Common.{◌≡◌, ◌+◌, ◌≤◌, ℕ, Bool, true, false, pos, refl, arith, Some}
use Rattle.std.specs.Prelude.{◌≤ℤ◌, ◌+ℤ◌, ◌==◌, ◌&&◌, if◌then◌else◌, slice_get}
use Rattle.std.proofs.lemmas.Int.{ints}
use Rattle.pf_state_estimates.proofs.Callers.{each_move, on_condition}
use Rattle.example_discs.specs.declared.discs.Tower.{Tower}
use Rattle.example_discs.specs.Moves.{after, all_on, is_clear, misplaced, moves_from, off}

one_most : (is : Bool) → (if is then 0 else 1) ≤ 1
one_most true = omega arith
one_most false = omega arith

first : (a b c to : ℕ) → a ≤ 1 → pos (a + b + c) ≤ℤ (pos 1 +ℤ pos (to + b + c))
first a b c to h = omega (arith, ints, h)

second : (a b c to : ℕ) → b ≤ 1 → pos (a + b + c) ≤ℤ (pos 1 +ℤ pos (a + to + c))
second a b c to h = omega (arith, ints, h)

third : (a b c to : ℕ) → c ≤ 1 → pos (a + b + c) ≤ℤ (pos 1 +ℤ pos (a + b + to))
third a b c to h = omega (arith, ints, h)

module _ (goal : ℕ) where
  pub falls : (s next : Tower) (cost place : ℕ) → slice_get (moves_from s) place ≡ Some (Some (next, cost)) → pos (misplaced goal s) ≤ℤ (pos cost +ℤ pos (misplaced goal next))
  falls s next cost place e =
      let F : Tower → ℕ → Type 0 = λ n c. pos (misplaced goal s) ≤ℤ (pos c +ℤ pos (misplaced goal n)) in
      let small = λ (to : ℕ). first (off goal s.small) (off goal s.middle) (off goal s.large) (off goal to) (one_most (s.small == goal)) in
      let middle = λ (to : ℕ). second (off goal s.small) (off goal s.middle) (off goal s.large) (off goal to) (one_most (s.middle == goal)) in
      let large = λ (to : ℕ). third (off goal s.small) (off goal s.middle) (off goal s.large) (off goal to) (one_most (s.large == goal)) in
      let middle_falls = λ (to : ℕ). on_condition F (is_clear s.small s.middle to) (Some (_, 1)) (middle to) in
      let large_falls = λ (to : ℕ). on_condition F (is_clear s.small s.large to) _ (on_condition F (is_clear s.middle s.large to) (Some (_, 1)) (large to)) in
      each_move F (moves_from s) (small (after s.small), (small (after (after s.small)), (middle_falls (after s.middle), (middle_falls (after (after s.middle)), (large_falls (after s.large), (large_falls (after (after s.large)), tt)))))) next cost place e

  pub none_off : (s : Tower) → all_on goal s ≡ true → pos (misplaced goal s) ≡ pos 0
  none_off s e = by (s.small == goal) (s.middle == goal) (s.large == goal) e
    where
      by : (a b c : Bool) → (a && (b && c)) ≡ true → pos ((if a then 0 else 1) + (if b then 0 else 1) + (if c then 0 else 1)) ≡ pos 0
      by true true true e = refl
      by true true false e = cc
      by true false c e = cc
      by false b c e = cc
