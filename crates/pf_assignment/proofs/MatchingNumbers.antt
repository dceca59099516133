-- Lemmas on the numbers of a list of costs, and on places in lists.
use Rattle.std.proofs.Common.{ℕ, zero, suc, ◌+◌, ◌<◌, ◌≡◌, ◌≢◌, refl, sym, ◌∙◌, ap, arith, Bool, true, false, List, [], ◌∷◌, ◌++◌, length, get_or, inl, inr, ℤ, true≢false}
use Rattle.std.specs.Prelude.{slice_set, MatchBool, ◌⊎◌, ◌≤ℤ◌, ◌+ℤ◌, pos}
use Rattle.std.proofs.lemmas.Bool.{cases_eq}
use Rattle.pf_base.specs.Places.{number}
use Rattle.pf_assignment.specs.Internal.AssignmentSteps.{flag, raised}

pub below_or_last : (p n : ℕ) → p < n + 1 → (p < n) ⊎ (p ≡ n)
below_or_last p n h = elim (cases_eq p n) as (λ _. (p < n) ⊎ (p ≡ n)) [ inl e ↦ inr e | inr e ↦ inl (omega (arith, e)) ]

-- no column was visited, where none of those in the list was
pub all_unvisited : (xs : List Bool) → ((j : ℕ) → j < length xs → flag xs j ≡ false) → (j : ℕ) → flag xs j ≡ false
all_unvisited [] h j = refl
all_unvisited (x ∷ xs) h zero = h zero (omega arith)
all_unvisited (x ∷ xs) h (suc j) = all_unvisited xs (λ k l. h (suc k) (omega (arith, l))) j

-- two numbers that are equal are in order both ways
pub level_means : (r : Bool) (a b : ℤ) → a ≤ℤ b → b ≤ℤ a → MatchBool r (a ≤ℤ b) (b ≤ℤ a)
level_means true a b h g = h
level_means false a b h g = g

module _ {C : Type 0} (value : C → ℤ) where
  -- the number of the element that was read
  pub number-at : (xs : List C) (j : ℕ) (x : C) → j < length xs → x ≡ get_or xs j x → number value xs j ≡ value x
  number-at [] j x h e = absurd (omega (arith, h))
  number-at (y ∷ xs) zero x h e = ap value (sym e)
  number-at (y ∷ xs) (suc j) x h e = number-at xs j x (omega (arith, h)) e

  pub number-set_same : (xs : List C) (j : ℕ) (x : C) → j < length xs → number value (slice_set xs j x) j ≡ value x
  number-set_same [] j x h = absurd (omega (arith, h))
  number-set_same (y ∷ xs) zero x h = refl
  number-set_same (y ∷ xs) (suc j) x h = number-set_same xs j x (omega (arith, h))

  pub number-set_other : (xs : List C) (k j : ℕ) (x : C) → j ≢ k → number value (slice_set xs k x) j ≡ number value xs j
  number-set_other [] k j x h = refl
  number-set_other (y ∷ xs) zero zero x h = absurd (h refl)
  number-set_other (y ∷ xs) zero (suc j) x h = refl
  number-set_other (y ∷ xs) (suc k) zero x h = refl
  number-set_other (y ∷ xs) (suc k) (suc j) x h = number-set_other xs k j x (λ e. h (ap suc e))

  -- behind the end there is no number
  pub number-past : (xs : List C) (j : ℕ) → length xs ≡ j → number value xs j ≡ pos 0
  number-past [] j e = refl
  number-past (y ∷ xs) zero e = absurd (omega (arith, e))
  number-past (y ∷ xs) (suc j) e = number-past xs j (omega (arith, e))

  pub number-push_last : (xs : List C) (x : C) → number value (xs ++ x ∷ []) (length xs) ≡ value x
  number-push_last [] x = refl
  number-push_last (y ∷ xs) x = number-push_last xs x

  pub number-push_other : (xs : List C) (x : C) (j : ℕ) → j < length xs → number value (xs ++ x ∷ []) j ≡ number value xs j
  number-push_other [] x j h = absurd (omega (arith, h))
  number-push_other (y ∷ xs) x zero h = refl
  number-push_other (y ∷ xs) x (suc j) h = number-push_other xs x j (omega (arith, h))

-- what is as it should be at each place below k is so at k too, once it was written there
pub below_written : {A : Type 0} (f f' target : ℕ → A) (k : ℕ) → f k ≡ target k → ((j : ℕ) → j ≢ k → f j ≡ f' j) → ((j : ℕ) → j < k → f' j ≡ target j) → (j : ℕ) → j < k + 1 → f j ≡ target j
below_written f f' target k same other below j h = elim (below_or_last j k h) as (λ _. f j ≡ target j) [ inl l ↦ other j (λ e. omega (arith, l, e)) ∙ below j l | inr e ↦ ap f e ∙ same ∙ ap target (sym e) ]

pub raised_true : (b : Bool) (x by : ℤ) → b ≡ true → raised b x by ≡ x +ℤ by
raised_true true x by h = refl
raised_true false x by h = absurd (true≢false (sym h))

pub raised_false : (b : Bool) (x by : ℤ) → b ≡ false → raised b x by ≡ x
raised_false true x by h = absurd (true≢false h)
raised_false false x by h = refl
