-- Multiples of a cost that stop at the greatest cost.
use Rattle.std.proofs.Common.{◌≡◌, ◌∙◌, ℕ, ℤ, pos, negsuc, zero, suc, ◌+◌, ◌*◌, ◌/◌, ◌%◌, ◌<◌, inl, inr, ap, subst, sym, refl, arith, min}
use Rattle.std.specs.Prelude.{◌≤ℤ◌, ◌+ℤ◌, ◌*ℤ◌}
use Rattle.std.specs.Int.{int_min}
use Rattle.std.proofs.Math.IntN.{pos-*ℤ-pos}
use Rattle.std.proofs.lemmas.Int.{ints, clamps}
use Rattle.std.proofs.lemmas.Bool.{cases_lt}

capped_from_zero : (z top : ℤ) → pos 0 ≤ℤ z → pos 0 ≤ℤ top → pos 0 ≤ℤ int_min z top
capped_from_zero z top a b = omega (arith, ints, clamps)

capped_below : (z top : ℤ) → int_min z top ≤ℤ top
capped_below z top = omega (arith, ints, clamps)

capped_same : (z top : ℤ) → z ≤ℤ top → int_min z top ≡ z
capped_same z top h = omega (arith, ints, clamps)

-- a sum to which nothing is added
pub nothing_more : (sum part top : ℤ) → part ≡ pos 0 → sum ≤ℤ top → int_min (sum +ℤ part) top ≡ sum
nothing_more sum part top none fits = omega (arith, ints, clamps)

-- ---- natural numbers

module _ (top : ℕ) where
  -- a number stops at the top before it is multiplied or after, where the product stops there too
  capped_factor : (n sum x : ℕ) → min (sum + n * min x top) top ≡ min (sum + n * x) top
  capped_factor zero sum x = omega arith
  capped_factor (suc n) sum x = elim (cases_lt top x) as (λ _. min (sum + suc n * min x top) top ≡ min (sum + suc n * x) top) [
    | inl h ↦ let a : min x top ≡ top = omega (arith, h) in ap (λ (z : ℕ). min (sum + suc n * z) top) a ∙ full (n * top) (n * x) h
    | inr h ↦ let a : min x top ≡ x = omega (arith, h) in ap (λ (z : ℕ). min (sum + suc n * z) top) a
  ]
    where
      full : (a b : ℕ) → top < x → min (sum + suc n * top) top ≡ min (sum + suc n * x) top
      full a b h = omega (arith, h)

  even_bit : (sum double left : ℕ) → left % 2 ≡ 0 → min (sum + (left / 2) * min (double + double) top) top ≡ min (sum + left * double) top
  even_bit sum double left e = capped_factor (left / 2) sum (double + double) ∙ ap (λ (z : ℕ). min (sum + z) top) (halves (left / 2) left (omega (arith, e)))
    where
      halves : (half left : ℕ) → left ≡ 2 * half → half * (double + double) ≡ left * double
      halves half left e = rw e (omega arith)

  odd_bit : (sum double left : ℕ) → left % 2 ≡ 1 → min (min (sum + double) top + (left / 2) * min (double + double) top) top ≡ min (sum + left * double) top
  odd_bit sum double left e = capped_factor (left / 2) (min (sum + double) top) (double + double) ∙ halves (left / 2) left (omega (arith, e))
    where
      halves : (half left : ℕ) → left ≡ 2 * half + 1 → min (min (sum + double) top + half * (double + double)) top ≡ min (sum + left * double) top
      halves half left e = rw e (omega arith)

-- ---- integers

min_pos : (a b : ℕ) → int_min (pos a) (pos b) ≡ pos (min a b)
min_pos a b = omega (arith, ints, clamps)

capped_product : (n sum x top : ℕ) → int_min (pos sum +ℤ pos n *ℤ pos x) (pos top) ≡ pos (min (sum + n * x) top)
capped_product n sum x top = ap (λ z. int_min (pos sum +ℤ z) (pos top)) (pos-*ℤ-pos n x) ∙ min_pos (sum + n * x) top

doubled : (sum double n top : ℕ) (s : ℤ) → s ≡ pos sum → int_min (s +ℤ pos n *ℤ int_min (pos double +ℤ pos double) (pos top)) (pos top) ≡ pos (min (sum + n * min (double + double) top) top)
doubled sum double n top s e = ap (λ z. int_min (z +ℤ pos n *ℤ int_min (pos double +ℤ pos double) (pos top)) (pos top)) e ∙ ap (λ z. int_min (pos sum +ℤ pos n *ℤ z) (pos top)) (min_pos (double + double) top) ∙ capped_product n sum (min (double + double) top) top

module _ (left : ℕ) where
  -- a bit that is 0
  without_bit : (top sum double : ℤ) → pos 0 ≤ℤ top → pos 0 ≤ℤ sum → pos 0 ≤ℤ double → left % 2 ≡ 0
      → int_min (sum +ℤ pos (left / 2) *ℤ int_min (double +ℤ double) top) top ≡ int_min (sum +ℤ pos left *ℤ double) top
  without_bit (pos top) (pos sum) (pos double) t s d e = doubled sum double (left / 2) top (pos sum) refl ∙ ap pos (even_bit top sum double left e) ∙ sym (capped_product left sum double top)
  without_bit (negsuc top) sum double t s d e = absurd (omega (arith, ints, t))
  without_bit (pos top) (negsuc sum) double t s d e = absurd (omega (arith, ints, s))
  without_bit (pos top) (pos sum) (negsuc double) t s d e = absurd (omega (arith, ints, d))

  -- a bit that is 1
  with_bit : (top sum double : ℤ) → pos 0 ≤ℤ top → pos 0 ≤ℤ sum → pos 0 ≤ℤ double → left % 2 ≡ 1
      → int_min (int_min (sum +ℤ double) top +ℤ pos (left / 2) *ℤ int_min (double +ℤ double) top) top ≡ int_min (sum +ℤ pos left *ℤ double) top
  with_bit (pos top) (pos sum) (pos double) t s d e = doubled (min (sum + double) top) double (left / 2) top (int_min (pos sum +ℤ pos double) (pos top)) (min_pos (sum + double) top) ∙ ap pos (odd_bit top sum double left e) ∙ sym (capped_product left sum double top)
  with_bit (negsuc top) sum double t s d e = absurd (omega (arith, ints, t))
  with_bit (pos top) (negsuc sum) double t s d e = absurd (omega (arith, ints, s))
  with_bit (pos top) (pos sum) (negsuc double) t s d e = absurd (omega (arith, ints, d))

-- ---- a product bit by bit

-- what the bits so far make, and the rest of the number times the doubled cost, are the whole product
pub record ArePart (top total product double : ℤ) (left : ℕ) : Type 0 where
  pub from_zero : pos 0 ≤ℤ product
  pub double_from_zero : pos 0 ≤ℤ double
  pub fits : product ≤ℤ top
  pub rest : int_min (product +ℤ pos left *ℤ double) top ≡ int_min total top

module _ (top : ℤ) (high : pos 0 ≤ℤ top) where
  pub first_bit : (product cost : ℤ) (count : ℕ) → product ≡ pos 0 → pos 0 ≤ℤ cost → ArePart top (pos count *ℤ cost) product cost count
  first_bit product cost count none low = record {
    from_zero = omega (arith, ints, none);
    double_from_zero = low;
    fits = omega (arith, ints, none, high);
    rest = (let same : (product +ℤ pos count *ℤ cost) ≡ pos count *ℤ cost = omega (arith, ints, none) in ap (λ z. int_min z top) same);
  }

  doubled_from_zero : (d double : ℤ) → pos 0 ≤ℤ double → d ≡ int_min (double +ℤ double) top → pos 0 ≤ℤ d
  doubled_from_zero d double low e = subst (λ z. pos 0 ≤ℤ z) (sym e) (capped_from_zero (double +ℤ double) top (omega (arith, ints, low)) high)

  module _ (total sum double product twice : ℤ) (left : ℕ) (so : ArePart top total sum double left) (d : twice ≡ int_min (double +ℤ double) top) where
    pub next_bit : product ≡ int_min (sum +ℤ double) top → left % 2 ≡ 1 → ArePart top total product twice (left / 2)
    next_bit p odd = record {
      from_zero = subst (λ z. pos 0 ≤ℤ z) (sym p) (capped_from_zero (sum +ℤ double) top (omega (arith, ints, so.from_zero, so.double_from_zero)) high);
      double_from_zero = doubled_from_zero twice double so.double_from_zero d;
      fits = subst (λ z. z ≤ℤ top) (sym p) (capped_below (sum +ℤ double) top);
      rest = ap (λ z. int_min (z +ℤ pos (left / 2) *ℤ twice) top) p ∙ ap (λ z. int_min (int_min (sum +ℤ double) top +ℤ pos (left / 2) *ℤ z) top) d
          ∙ with_bit left top sum double high so.from_zero so.double_from_zero odd ∙ so.rest;
    }

    pub next_no_bit : product ≡ sum → left % 2 ≡ 0 → ArePart top total product twice (left / 2)
    next_no_bit p even = record {
      from_zero = subst (λ z. pos 0 ≤ℤ z) (sym p) so.from_zero;
      double_from_zero = doubled_from_zero twice double so.double_from_zero d;
      fits = subst (λ z. z ≤ℤ top) (sym p) so.fits;
      rest = ap (λ z. int_min (z +ℤ pos (left / 2) *ℤ twice) top) p ∙ ap (λ z. int_min (sum +ℤ pos (left / 2) *ℤ z) top) d
          ∙ without_bit left top sum double high so.from_zero so.double_from_zero even ∙ so.rest;
    }

  pub no_bit_left : (total product double : ℤ) (left : ℕ) → left ≡ 0 → ArePart top total product double left → product ≡ int_min total top
  no_bit_left total product double left e so =
      let none : pos left *ℤ double ≡ pos 0 = zero_times double so.double_from_zero in
      let same : product +ℤ pos left *ℤ double ≡ product = ap (λ z. product +ℤ z) none ∙ plus_none product in
      sym (ap (λ z. int_min z top) same ∙ capped_same product top so.fits) ∙ so.rest
    where
      zero_times : (z : ℤ) → pos 0 ≤ℤ z → pos left *ℤ z ≡ pos 0
      zero_times (negsuc n) l = absurd (omega (arith, ints, l))
      zero_times (pos n) l = ap (λ k. pos k *ℤ pos n) e ∙ pos-*ℤ-pos 0 n ∙ omega (arith, ints)

      plus_none : (z : ℤ) → z +ℤ pos 0 ≡ z
      plus_none z = omega (arith, ints)
