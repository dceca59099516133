-- Sums over vertices.
use Rattle.std.proofs.Common.{◌≡◌, ◌≢◌, ◌∙◌, ◌⊎◌, inl, inr, refl, sym, ap, ◌<◌, ◌+ℤ◌, ℕ, ℤ, zero, suc, pos, arith, Bool, true, false, true≢false, eq-eqb, nat_eq}
use Rattle.std.specs.Prelude.{◌≤ℤ◌}
use Rattle.std.proofs.lemmas.Int.{ints}
use Rattle.std.proofs.lemmas.Bool.{cases_eq}
use borrow.Author.Tests.{eqb-true}
use Rattle.pf_residual.specs.Flows.{PairTable, pair_sum, IsNonNegative}
use Rattle.pf_base.specs.Sums.{sum_to}

pub sum_ext : (u v : ℕ → ℤ) (n : ℕ) → ((a : ℕ) → a < n → u a ≡ v a) → sum_to u n ≡ sum_to v n
sum_ext u v zero h = refl
sum_ext u v (suc n) h = omega (arith, ints, sum_ext u v n (λ a l. h a (omega (arith, l))), h n (omega arith))

pub sum_add : (u v : ℕ → ℤ) (n : ℕ) → sum_to (λ a. u a +ℤ v a) n ≡ sum_to u n +ℤ sum_to v n
sum_add u v zero = refl
sum_add u v (suc n) = omega (arith, ints, sum_add u v n)

pub sum_le : (u v : ℕ → ℤ) (n : ℕ) → ((a : ℕ) → a < n → u a ≤ℤ v a) → sum_to u n ≤ℤ sum_to v n
sum_le u v zero h = omega (arith, ints)
sum_le u v (suc n) h = omega (arith, ints, sum_le u v n (λ a l. h a (omega (arith, l))), h n (omega arith))

pub sum_opposite : (u v : ℕ → ℤ) (n : ℕ) → ((a : ℕ) → a < n → u a +ℤ v a ≡ pos 0) → sum_to u n +ℤ sum_to v n ≡ pos 0
sum_opposite u v zero h = refl
sum_opposite u v (suc n) h = omega (arith, ints, sum_opposite u v n (λ a l. h a (omega (arith, l))), h n (omega arith))

pub sum_none : (u : ℕ → ℤ) (n : ℕ) → ((a : ℕ) → a < n → u a ≡ pos 0) → sum_to u n ≡ pos 0
sum_none u zero h = refl
sum_none u (suc n) h = omega (arith, ints, sum_none u n (λ a l. h a (omega (arith, l))), h n (omega arith))

-- an antisymmetric table sums to 0
pub square_none : (g : PairTable) (n : ℕ) → ((a b : ℕ) → a < n → b < n → g a b +ℤ g b a ≡ pos 0) → sum_to (λ a. sum_to (g a) n) n ≡ pos 0
square_none g zero h = refl
square_none g (suc n) h =
    let inner = square_none g n (λ a b l m. h a b (omega (arith, l)) (omega (arith, m))) in
    let split = sum_add (λ a. sum_to (g a) n) (λ a. g a n) n in
    let edge = sum_opposite (λ a. g a n) (g n) n (λ a l. h a n (omega (arith, l)) (omega arith)) in
    let corner = h n n (omega arith) (omega arith) in
    omega (arith, ints, inner, split, edge, corner)

only_by : (u : ℕ → ℤ) (n s : ℕ) (t : Bool) → nat_eq s n ≡ t → s < suc n → (s < n → sum_to u n ≡ u s) → ((a : ℕ) → a < suc n → a ≢ s → u a ≡ pos 0) → sum_to u n +ℤ u n ≡ u s
only_by u n s true e l rest h =
    let same = eqb-true s n e in
    let none = sum_none u n (λ a k. h a (omega (arith, k)) (λ q. absurd (omega (arith, k, q, same)))) in
    let last = ap u same in
    omega (arith, ints, none, last)
only_by u n s false e l rest h =
    let apart : s ≢ n = λ q. absurd (true≢false (sym (eq-eqb s n q) ∙ e)) in
    let before = rest (omega (arith, l, apart)) in
    let last = h n (omega arith) (λ q. apart (sym q)) in
    omega (arith, ints, before, last)

pub sum_only : (u : ℕ → ℤ) (n s : ℕ) → s < n → ((a : ℕ) → a < n → a ≢ s → u a ≡ pos 0) → sum_to u n ≡ u s
sum_only u zero s l h = absurd (omega (arith, l))
sum_only u (suc n) s l h = only_by u n s (nat_eq s n) refl l (λ k. sum_only u n s k (λ a m q. h a (omega (arith, m)) q)) h

-- a sum of numbers from 0 up is not below 0
pub sum_above : (u : ℕ → ℤ) (n : ℕ) → ((a : ℕ) → a < n → pos 0 ≤ℤ u a) → pos 0 ≤ℤ sum_to u n
sum_above u zero h = omega (arith, ints)
sum_above u (suc n) h = omega (arith, ints, sum_above u n (λ a l. h a (omega (arith, l))), h n (omega arith))

last_or_before : (k n : ℕ) → k < suc n → (k ≡ n) ⊎ (k < n)
last_or_before k n h = elim (cases_eq k n) as (λ _. (k ≡ n) ⊎ (k < n)) [ inl e ↦ inl e | inr e ↦ inr (omega (arith, e)) ]

-- a number of a sum of numbers from 0 up is at most the sum
pub sum_has : (u : ℕ → ℤ) (n k : ℕ) → k < n → ((a : ℕ) → a < n → pos 0 ≤ℤ u a) → u k ≤ℤ sum_to u n
sum_has u zero k l h = absurd (omega (arith, l))
sum_has u (suc n) k l h =
    let before = sum_above u n (λ a m. h a (omega (arith, m))) in
    let here = h n (omega arith) in
    elim (last_or_before k n l) as (λ _. u k ≤ℤ sum_to u (suc n)) [
      | inl e ↦ (let f = ap u e in omega (arith, ints, before, here, f))
      | inr m ↦ (let f = sum_has u n k m (λ a o. h a (omega (arith, o))) in omega (arith, ints, here, f))
    ]

-- two numbers of a sum of numbers from 0 up, at different places, are together at most the sum
pub sum_has_both : (u : ℕ → ℤ) (n k l : ℕ) → k < n → l < n → k ≢ l → ((a : ℕ) → a < n → pos 0 ≤ℤ u a) → (u k +ℤ u l) ≤ℤ sum_to u n
sum_has_both u zero k l i j d h = absurd (omega (arith, i))
sum_has_both u (suc n) k l i j d h =
    let here = h n (omega arith) in
    elim (last_or_before k n i) as (λ _. (u k +ℤ u l) ≤ℤ sum_to u (suc n)) [
      | inl e ↦ (let f = ap u e in let o = sum_has u n l (omega (arith, j, e, d)) (λ a m. h a (omega (arith, m))) in omega (arith, ints, f, o))
      | inr m ↦ elim (last_or_before l n j) as (λ _. (u k +ℤ u l) ≤ℤ sum_to u (suc n)) [
        | inl e ↦ (let f = ap u e in let o = sum_has u n k m (λ a m. h a (omega (arith, m))) in omega (arith, ints, f, o))
        | inr o ↦ (let f = sum_has_both u n k l m o d (λ a m. h a (omega (arith, m))) in omega (arith, ints, here, f))
      ]
    ]

-- sums of numbers of which none is above its partner, and that are equal, have equal numbers
pub sum_equal : (u v : ℕ → ℤ) (n : ℕ) → ((a : ℕ) → a < n → u a ≤ℤ v a) → sum_to v n ≤ℤ sum_to u n → (a : ℕ) → a < n → v a ≤ℤ u a
sum_equal u v zero h e a l = absurd (omega (arith, l))
sum_equal u v (suc n) h e a l =
    let before = sum_le u v n (λ a m. h a (omega (arith, m))) in
    let here = h n (omega arith) in
    elim (last_or_before a n l) as (λ _. v a ≤ℤ u a) [
      | inl f ↦ (let g = ap u f in let k = ap v f in omega (arith, ints, before, e, g, k))
      | inr m ↦ sum_equal u v n (λ a o. h a (omega (arith, o))) (omega (arith, ints, here, e)) a m
    ]

module _ {n : ℕ} {t : PairTable} (h : IsNonNegative n t) where
  row_above : (a : ℕ) → a < n → pos 0 ≤ℤ sum_to (t a) n
  row_above a l = sum_above (t a) n (λ b m. h.at a b l m)

  pub pair_sum_above : pos 0 ≤ℤ pair_sum n t
  pair_sum_above = sum_above (λ a. sum_to (t a) n) n row_above

  -- a row of a table of numbers from 0 up is at most the sum of the table
  pub pair_sum_has_row : (a : ℕ) → a < n → sum_to (t a) n ≤ℤ pair_sum n t
  pair_sum_has_row a l = sum_has (λ a. sum_to (t a) n) n a l row_above

  -- so is a number of it
  pub pair_sum_has : (a b : ℕ) → a < n → b < n → t a b ≤ℤ pair_sum n t
  pair_sum_has a b l m =
      let f = sum_has (t a) n b m (λ b o. h.at a b l o) in
      let g = pair_sum_has_row a l in
      omega (arith, ints, f, g)

  -- and the sum of the numbers of a pair and of its reverse
  pub pair_sum_has_both : (a b : ℕ) → a < n → b < n → a ≢ b → (t a b +ℤ t b a) ≤ℤ pair_sum n t
  pair_sum_has_both a b l m d =
      let f = sum_has (t a) n b m (λ b o. h.at a b l o) in
      let g = sum_has (t b) n a l (λ a o. h.at b a m o) in
      let k = sum_has_both (λ a. sum_to (t a) n) n a b l m d row_above in
      omega (arith, ints, f, g, k)
