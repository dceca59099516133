-- Square roots by Heron's method, over the naturals, and the numbers of an unsigned type.
use Rattle.std.proofs.Common.{◌≡◌, ℕ, ℤ, pos, negsuc, suc, ◌+◌, ◌-◌, ◌*◌, ◌/◌, ◌^◌, ◌<◌, ◌≤◌, ◌+ℤ◌, ◌-ℤ◌, refl, sym, ap, subst, ◌∙◌, inl, inr, arith, Bool, true, false, Option, Some}
use Rattle.std.specs.Ordering.{int_cmp, is_lt, is_some_and}
use Rattle.std.specs.declared.cmp.Ordering.{Ordering}
use Rattle.std.proofs.Math.IntN.{pos-*ℤ-pos, negsuc-*ℤ-negsuc}
use Rattle.std.specs.Prelude.{◌≤ℤ◌, ◌<ℤ◌, ◌*ℤ◌, unsigned_abs, int_div}
use Rattle.std.specs.Int.{Width, w8, w16, w32, w64, w128, int_shr}
use Rattle.std.proofs.Math.Nat.{mul-div-le, pow-le-pow_right}
use Rattle.std.proofs.lemmas.Bool.{cases_lt}
use Rattle.std.proofs.lemmas.Int.{ints}
use Rattle.std.proofs.lemmas.Nat.{le-div, mul-le, mul-lt, pow-add, pow_pos, leading_top}
use Rattle.num_traits.specs.Laws.{bit_len}
use lib.Count.{count_leading_zeros}
use mir.Val.{bits}

-- ---- the method

-- the smaller number has the smaller square
pub root_order : (a b : ℕ) → a * a ≤ b * b → a ≤ b
root_order a b h = elim (cases_lt b a) [ inl l ↦ absurd (omega (arith, h, mul-lt b b a a l l)) | inr l ↦ l ]

-- n, shifted right by half of its length, is not below a root
pub first_above : (n k r : ℕ) → 2 ^ (2 * k) ≤ n → r * r ≡ n → r ≤ n / 2 ^ k
first_above n k r h e =
    let square : 2 ^ (2 * k) ≡ 2 ^ k * 2 ^ k = ap (λ m. 2 ^ m) (let d : 2 * k ≡ k + k = omega arith in d) ∙ pow-add 2 k k in
    let low : 2 ^ k ≤ r = root_order (2 ^ k) r (omega (arith, h, e, square)) in
    le-div r n (2 ^ k) (pow_pos k) (omega (arith, e, mul-le r (2 ^ k) r r (omega arith) low))

pub first_positive : (n k : ℕ) → 2 ^ (2 * k) ≤ n → 0 < n / 2 ^ k
first_positive n k h =
    let square : 2 ^ (2 * k) ≡ 2 ^ k * 2 ^ k = ap (λ m. 2 ^ m) (let d : 2 * k ≡ k + k = omega arith in d) ∙ pow-add 2 k k in
    le-div 1 n (2 ^ k) (pow_pos k) (omega (arith, h, square, mul-le 1 (2 ^ k) (2 ^ k) (2 ^ k) (pow_pos k) (omega arith)))

square_of_sum : (r d : ℕ) → (r - d) * (r + d) ≤ r * r
square_of_sum r d = elim (cases_lt r d) [
  | inl l ↦ (let z : r - d ≡ 0 = omega arith in omega (arith, ap (λ x. x * (r + d)) z))
  | inr l ↦ (let split : r ≡ (r - d) + d = omega arith in larger (r - d) d r split)
]
  where
    larger : (x d r : ℕ) → r ≡ x + d → x * (r + d) ≤ r * r
    larger x d r e = omega (arith, ap (λ y. x * (y + d)) e, ap (λ y. y * y) e)

-- the middle p of a number m and the quotient by it is not below a root
pub middle_above : (n m q p r : ℕ) → q ≡ n / m → p ≡ (q + m) / 2 → 0 < m → r * r ≡ n → r ≤ m → r ≤ p
middle_above n m q p r f g h e l =
    let d : ℕ = m - r in
    let sum : r + d ≡ m = omega arith in
    let part : (r - d) * m ≤ n = omega (arith, square_of_sum r d, ap (λ x. (r - d) * x) sum, e) in
    let quotient : r - d ≤ n / m = le-div (r - d) n m h part in
    omega arith

pub middle_positive : (n m q p : ℕ) → q ≡ n / m → p ≡ (q + m) / 2 → 0 < n → 0 < m → q < m → 0 < p
middle_positive n m q p f g h k l = elim (cases_lt m 2) [
  | inl low ↦ (let one : m ≡ 1 = omega arith in omega (arith, ap (λ x. n / x) one))
  | inr low ↦ omega arith
]

-- where the quotient is not smaller, a root is no other number
pub last_below : (n m q : ℕ) → q ≡ n / m → 0 < m → m ≤ q → m * m ≤ n
last_below n m q e h l = omega (arith, mul-div-le n m, mul-le m m m (n / m) (omega arith) (omega arith))

pub last_only : (n m r : ℕ) → m * m ≤ n → r * r ≡ n → r ≤ m → r ≡ m
last_only n m r h e l = let k : m ≤ r = root_order m r (omega (arith, h, e)) in omega arith

-- ---- numbers of an unsigned type

pub natural : (z : ℤ) → pos 0 ≤ℤ z → z ≡ pos (unsigned_abs z)
natural (pos n) h = refl
natural (negsuc n) h = absurd (omega (arith, ints))

pub above_zero : (z : ℤ) → pos 0 ≤ℤ z → 0 < unsigned_abs z → pos 0 <ℤ z
above_zero (pos n) h l = omega (arith, ints)
above_zero (negsuc n) h l = absurd (omega (arith, ints))

pub quotient_is : (x y : ℤ) → pos 0 ≤ℤ x → pos 0 ≤ℤ y → int_div x y ≡ pos (unsigned_abs x / unsigned_abs y)
quotient_is (pos x) (pos y) h k = refl
quotient_is (pos x) (negsuc y) h k = absurd (omega (arith, ints))
quotient_is (negsuc x) y h k = absurd (omega (arith, ints))

pub shifted_is : (x : ℤ) (k : ℕ) → pos 0 ≤ℤ x → int_shr x k ≡ pos (unsigned_abs x / 2 ^ k)
shifted_is (pos x) k h = refl
shifted_is (negsuc x) k h = absurd (omega (arith, ints))

pub middle_is : (l h d s : ℤ) → pos 0 ≤ℤ l → pos 0 ≤ℤ h → unsigned_abs l ≤ unsigned_abs h → d ≡ h -ℤ l → s ≡ int_shr d 1 → l +ℤ s ≡ pos ((unsigned_abs l + unsigned_abs h) / 2)
middle_is (pos l) (pos h) d s a b o e f =
    let gap : d ≡ pos (h - l) = omega (arith, ints) in
    let half : s ≡ pos ((h - l) / 2) = f ∙ ap (λ x. int_shr x 1) gap in
    omega (arith, ints)
middle_is (pos l) (negsuc h) d s a b o e f = absurd (omega (arith, ints))
middle_is (negsuc l) h d s a b o e f = absurd (omega (arith, ints))

pub difference_fits : (l h : ℤ) → pos 0 ≤ℤ l → pos 0 ≤ℤ h → unsigned_abs l ≤ unsigned_abs h → l ≤ℤ h
difference_fits (pos l) (pos h) a b o = omega (arith, ints)
difference_fits (pos l) (negsuc h) a b o = absurd (omega (arith, ints))
difference_fits (negsuc l) h a b o = absurd (omega (arith, ints))

not_above : (m : ℕ) (z : ℤ) → pos 0 ≤ℤ z → m ≤ unsigned_abs z → pos m ≤ℤ z
not_above m (pos n) h l = omega (arith, ints)
not_above m (negsuc n) h l = absurd (omega (arith, ints))

-- what lies between 0 and a number of the type is of the type
pub fits_below : (fits : ℤ → Type 0) → ((x y z : ℤ) → fits x → fits z → x ≤ℤ y → y ≤ℤ z → fits y) → fits (pos 0) → (z : ℤ) → fits z → pos 0 ≤ℤ z → (m : ℕ) → m ≤ unsigned_abs z → fits (pos m)
fits_below fits between none z f low m l = between (pos 0) (pos m) z none f (omega (arith, ints)) (not_above m z low l)

less_means : (x y : ℤ) (r : Bool) → pos 0 ≤ℤ x → pos 0 ≤ℤ y → r ≡ is_lt (int_cmp x y) → ((r ≡ true) → unsigned_abs x < unsigned_abs y) × ((r ≡ false) → unsigned_abs y ≤ unsigned_abs x)
less_means (pos x) (pos y) r h k e = ((λ t. grind (arith, ints)), (λ t. grind (arith, ints)))
less_means (pos x) (negsuc y) r h k e = absurd (omega (arith, ints))
less_means (negsuc x) y r h k e = absurd (omega (arith, ints))

-- what a comparison of two numbers means
pub order_means : (x y : ℤ) (o : Option Ordering) (r : Bool) → pos 0 ≤ℤ x → pos 0 ≤ℤ y → o ≡ Some (int_cmp x y) → r ≡ is_some_and is_lt o → ((r ≡ true) → unsigned_abs x < unsigned_abs y) × ((r ≡ false) → unsigned_abs y ≤ unsigned_abs x)
order_means x y o r h k e f = less_means x y r h k (f ∙ ap (is_some_and is_lt) e)

-- ---- squares

-- the square of a number from 0 up
square_is : (z : ℤ) → pos 0 ≤ℤ z → z *ℤ z ≡ pos (unsigned_abs z * unsigned_abs z)
square_is (pos n) h = pos-*ℤ-pos n n
square_is (negsuc n) h = absurd (omega (arith, ints))

-- the square of any whole number is that of a natural
square_abs : (z : ℤ) (n : ℕ) → z *ℤ z ≡ pos n → unsigned_abs z * unsigned_abs z ≡ n
square_abs (pos m) n e = let h : pos (m * m) ≡ pos n = sym (pos-*ℤ-pos m m) ∙ e in cc
square_abs (negsuc m) n e = let h : pos (suc m * suc m) ≡ pos n = sym (negsuc-*ℤ-negsuc m m) ∙ e in cc

-- a root that is the only one, as a whole number
pub root_is : (z r n : ℤ) → pos 0 ≤ℤ r → pos 0 ≤ℤ n → ((m : ℕ) → m * m ≡ unsigned_abs n → m ≡ unsigned_abs r) → z *ℤ z ≡ n → r *ℤ r ≡ n
root_is z r n low up only e =
    let f : unsigned_abs z * unsigned_abs z ≡ unsigned_abs n = square_abs z (unsigned_abs n) (e ∙ natural n up) in
    square_is r low ∙ ap (λ m. pos (m * m)) (sym (only (unsigned_abs z) f)) ∙ ap pos f ∙ sym (natural n up)

pub square_fits : (fits : ℤ → Type 0) → ((x y z : ℤ) → fits x → fits z → x ≤ℤ y → y ≤ℤ z → fits y) → fits (pos 0) → (n r : ℤ) → fits n → pos 0 ≤ℤ n → pos 0 ≤ℤ r → unsigned_abs r * unsigned_abs r ≤ unsigned_abs n → fits (r *ℤ r)
square_fits fits between none n r f up low h = subst fits (sym (square_is r low)) (fits_below fits between none n f up _ h)

-- ---- lengths

bit_len-bits : (w : Width) → bit_len w ≡ bits w
bit_len-bits w8 = refl
bit_len-bits w16 = refl
bit_len-bits w32 = refl
bit_len-bits w64 = refl
bit_len-bits w128 = refl

-- half of the place of the highest bit of n, from the leading zeros of 0 and of n
pub half_of_length : (w : Width) (n zeros more : ℕ) → 0 < n → n < 2 ^ bit_len w → zeros ≡ bits w → more ≡ count_leading_zeros (bits w) n → (more < zeros) × (2 ^ (2 * ((zeros - more - 1) / 2)) ≤ n) × (n < 2 ^ (2 * ((zeros - more - 1) / 2) + 2))
half_of_length w n zeros more h l a b =
    let t = leading_top (bits w) n h (subst (λ k. n < 2 ^ k) (bit_len-bits w) l) in
    let whole = t.1 in
    let below : more < zeros = omega arith in
    let half : 2 * ((zeros - more - 1) / 2) ≤ t.0 = omega arith in
    let next : suc t.0 ≤ 2 * ((zeros - more - 1) / 2) + 2 = omega arith in
    let power : 2 ^ (2 * ((zeros - more - 1) / 2)) ≤ 2 ^ t.0 = pow-le-pow_right (omega arith) half in
    let above : 2 ^ suc t.0 ≤ 2 ^ (2 * ((zeros - more - 1) / 2) + 2) = pow-le-pow_right (omega arith) next in
    (below, omega (arith, power, t.2), omega (arith, above, t.3))

pub one_below : (w : Width) → 1 < bit_len w
one_below w8 = omega arith
one_below w16 = omega arith
one_below w32 = omega arith
one_below w64 = omega arith
one_below w128 = omega arith
