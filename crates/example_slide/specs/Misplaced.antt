-- How many tiles are out of place. A move brings at most one into place.
use Rattle.std.proofs.Common.{◌≡◌, ◌∙◌, ◌+◌, ◌≤◌, ℕ, zero, suc, Bool, true, false, pos, refl, ap, inl, inr, arith, Some}
use Rattle.std.proofs.lemmas.Bool.{eqb-false, eq-eqb}
use Rattle.std.proofs.lemmas.Bool.Decides.{eqb_tells}
use Rattle.std.proofs.lemmas.Int.{ints}
use Rattle.std.proofs.lemmas.List.{get_or-set_other}
use Rattle.std.specs.Prelude.{◌≤ℤ◌, ◌+ℤ◌, ◌==◌, ◌||◌, if◌then◌else◌, slice_get, slice_index}
use Rattle.pf_state_estimates.proofs.Callers.{each_move, on_condition}
use Rattle.example_slide.specs.declared.slide.Tiles.{Tiles}
use Rattle.example_slide.specs.Moves.{moves_from, slid_to}

module _ (goal : Tiles) where
  -- 1 for a cell that is not the gap and has another tile than in the goal, else 0
  abbrev pub off : Tiles → ℕ → ℕ
  off s cell = if cell == s.gap || slice_index s.cells cell == slice_index goal.cells cell then 0 else 1

  -- how many of so many cells are off
  abbrev pub misplaced : ℕ → Tiles → ℕ
  misplaced zero s = 0
  misplaced (suc n) s = misplaced n s + off s n

  pub none_off : (n : ℕ) (s : Tiles) → s ≡ goal → misplaced n s ≡ 0
  none_off zero s e = refl
  none_off (suc n) s e = omega (arith, none_off n s e, right (n == s.gap) _ (eq-eqb _ _ (ap (λ (t : Tiles). slice_index t.cells n) e)))
    where
      right : (gap same : Bool) → same ≡ true → ◌≡◌ {A = ℕ} (if gap || same then 0 else 1) 0
      right true same e = refl
      right false same e = rw e refl

  one_most : (is : Bool) → (if is then 0 else 1) ≤ 1
  one_most true = omega arith
  one_most false = omega arith

  stays : (gap to same after : Bool) → to ≡ false → (gap ≡ false → after ≡ same) → (if gap || same then 0 else 1) ≤ (if to || after then 0 else 1)
  stays true to same after e f = omega arith
  stays false to same after e f = rw (e, f refl) (omega arith)

  one_less : (s : Tiles) (to n : ℕ) → (misplaced n s ≤ 1 + misplaced n (slid_to s to)) × (n ≤ to → misplaced n s ≤ misplaced n (slid_to s to))
  one_less s to zero = (omega arith, λ h. omega arith)
  one_less s to (suc n) =
      let before = one_less s to n in
      elim (eqb_tells n to) [
        | inl h ↦ let below : n ≤ to = omega (arith, h.1) in
            (omega (arith, before.1 below, one_most (n == s.gap || slice_index s.cells n == slice_index goal.cells n)), λ l. absurd (omega (arith, h.1, l)))
        | inr h ↦
            let kept : off s n ≤ off (slid_to s to) n = stays (n == s.gap) (n == to) _ _ h.0 (λ g. ap (λ v. v == slice_index goal.cells n) (get_or-set_other _ to n 0 0 h.1 ∙ get_or-set_other s.cells s.gap n _ 0 (eqb-false n s.gap g))) in
            (omega (arith, before.0, kept), λ l. let below : n ≤ to = omega (arith, l) in omega (arith, before.1 below, kept))
      ]

  pub falls : (s next : Tiles) (cost place : ℕ) → slice_get (moves_from s) place ≡ Some (Some (next, cost)) → pos (misplaced 9 s) ≤ℤ (pos cost +ℤ pos (misplaced 9 next))
  falls s next cost place e =
      let F : Tiles → ℕ → Type 0 = λ t c. pos (misplaced 9 s) ≤ℤ (pos c +ℤ pos (misplaced 9 t)) in
      let slides = λ (condition : Bool) (to : ℕ). on_condition F condition (Some (slid_to s to, 1)) (omega (arith, ints, (one_less s to 9).0)) in
      each_move F (moves_from s) (slides _ _, (slides _ _, (slides _ _, (slides _ _, tt)))) next cost place e
