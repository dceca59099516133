-- Bounds over plain numbers.
use Rattle.std.proofs.Common.{ℕ, ℤ, ◌+◌, ◌-◌, ◌^◌, ◌<◌, ◌≤◌, ◌≡◌, ap, arith, refl, Fits, w64, List, [], ◌∷◌, ◌++◌, length, length-append}
use Rattle.std.specs.Prelude.{◌≤ℤ◌, ◌<ℤ◌}
use Rattle.std.proofs.lemmas.Int.{ints}

pub below_more : (i n m : ℕ) → i < n → n ≤ m → i < m
below_more i n m h l = omega (arith, h, l)

pub most_more : (i n m : ℕ) → i ≤ n → n ≤ m → i ≤ m
most_more i n m h l = omega (arith, h, l)

pub none_below : (i : ℕ) → i < 0 → ⊥
none_below i h = omega (arith, h)

pub none_more : (n : ℕ) → 0 ≤ n
none_more n = omega arith

pub some_one : (n : ℕ) → n ≡ 1 → 0 < n
some_one n e = omega (arith, e)

pub one_further : (i n : ℕ) → i < n → i + 1 ≤ n
one_further i n h = omega (arith, h)

pub at_the_end : (i n : ℕ) → n ≤ i → i ≤ n → i ≡ n
at_the_end i n h l = omega (arith, h, l)

pub at_most_equal : (n m : ℕ) → n ≡ m → n ≤ m
at_most_equal n m e = omega (arith, e)

pub wide_enough : (n m a b : ℕ) → n ≡ m → a ≡ b → m ≤ b → n ≤ a
wide_enough n m a b e f h = omega (arith, e, f, h)

pub few_fit : (n m : ℕ) → n ≡ m → n ≤ 2 ^ 32 → m ≤ 2 ^ 64
few_fit n m e few = omega (arith, e, few)

pub is_at_most : (a b : ℤ) → a ≡ b → b ≤ℤ a
is_at_most a b e = omega (arith, ints, e)

pub at_most_both : (a b d : ℤ) → a ≤ℤ b → b ≤ℤ d → a ≤ℤ d
at_most_both a b d h l = omega (arith, ints, h, l)

pub at_most_below : (a b d : ℤ) → a ≤ℤ b → b <ℤ d → a ≤ℤ d
at_most_below a b d h l = omega (arith, ints, h, l)

-- places of a list that is kept, whose room is below 2^63
pub turns_fit : (n len room m : ℕ) → n ≡ m → (len ≡ m) × (len ≤ room) → room < 2 ^ 63 → n < 2 ^ 64
turns_fit n len room m e ok small = omega (arith, e, ok.0, ok.1, small)

pub places_fit : (end at len room m : ℕ) → end ≤ m → (len ≡ m) × (len ≤ room) → room < 2 ^ 63 → (end - at) + 1 < 2 ^ 64
places_fit end at len room m h ok small = omega (arith, h, ok.0, ok.1, small)

pub place_inside : (at end len m : ℕ) → at < end → end ≤ m → len ≡ m → at < len
place_inside at end len m h l e = omega (arith, h, l, e)

pub place_fits : (at end len room m : ℕ) → at < end → end ≤ m → (len ≡ m) × (len ≤ room) → room < 2 ^ 63 → Fits w64 (at + 1)
place_fits at end len room m h l ok small = omega (arith, h, l, ok.0, ok.1, small)

-- a list of no elements
pub nothing_left : {A : Type 0} (xs : List A) (n : ℕ) → n ≡ length xs → n ≡ 0 → xs ≡ []
nothing_left [] n is none = refl
nothing_left (x ∷ xs) n is none = absurd (omega (arith, is, none))

-- what is left of entries is no more without the rest
pub without_rest : {A : Type 0} (xs ys : List A) (n : ℕ) → length (xs ++ ys) + 1 ≤ n → length (xs ++ []) + 1 ≤ n
without_rest xs ys n h = omega (arith, h, length-append xs ys, length-append xs [])

-- nor without the first
pub without_first : {A : Type 0} (xs ys zs : List A) (n : ℕ) → xs ≡ [] → length (zs ++ ys) ≤ n → length (xs ++ ys) ≤ n
without_first [] ys zs n e h = omega (arith, h, length-append zs ys)
without_first (x ∷ xs) ys zs n e h = absurd (omega (arith, ap length e))
