-- Bits in words: what one written word does to all bits.
use Rattle.std.proofs.Common.{◌≡◌, ◌≢◌, ℕ, ◌+◌, ◌-◌, ◌*◌, ◌/◌, ◌%◌, ◌^◌, ◌<◌, ◌≤◌, ◌∙◌, refl, sym, ap, subst, arith, min, suc, inl, inr, replicate, Bool, true, false, not, ◌&&◌, nat_eq, nat_lt, List, length, get_or, Vec, bit_and, bit_xor}
use Rattle.std.specs.Prelude.{slice_set, if◌then◌else◌}
use Rattle.std.specs.Int.{bit_at, bit_not, w64}
use Rattle.std.specs.Bool.{beq}
use Rattle.std.specs.Vec.{with_items}
use Rattle.std.proofs.Math.Nat.{mul-le-mul_right, suc-mul, mul_comm, min-zero}
use Rattle.std.proofs.lemmas.Bool.{cases_eq, cases_lt, cases_Bool, eq-eqb, eqb-true, lt-ltb, le-ltb}
use Rattle.std.proofs.lemmas.Bool.Decides.{nat_tests}
use Rattle.std.proofs.lemmas.List.{get_or-set_same, get_or-set_other, get_or-replicate, get_or_past, length-replicate, with_items_is}
use Rattle.std.proofs.lemmas.Nat.{same_from_place, one_shl}
use Rattle.std.proofs.lemmas.Nat.Bits.{bit_at_xor, bit_at-pow_same, bit_at-pow_other, bit_at_and, bit_at_ones, bit_at_ones_above, bit_at-lt, bit_at-zero, bit_at_not}
use Rattle.pf_grid.specs.Internal.Words.{bit, held, row_words, turned}
use Rattle.pf_grid.specs.GridPositions.{is_position}
use Rattle.pf_grid.proofs.CellLemmas.{and_first, and_second}

neq-eqb : (a b : ℕ) → (a ≡ b → ⊥) → nat_eq a b ≡ false
neq-eqb a b n = elim (cases_Bool (nat_eq a b)) as (λ _. nat_eq a b ≡ false) [ inl e ↦ absurd (n (eqb-true a b e)) | inr e ↦ e ]

pub position_same : (x y a b : ℕ) → a ≡ x → b ≡ y → is_position (x, y) a b ≡ true
position_same x y a b e f = let p = eq-eqb a x e in let q = eq-eqb b y f in cc

pub position_other_x : (x y a b : ℕ) → (a ≡ x → ⊥) → is_position (x, y) a b ≡ false
position_other_x x y a b n = ap (λ t. t && nat_eq b y) (neq-eqb a x n)

and_no : (b : Bool) → (b && false) ≡ false
and_no true = refl
and_no false = refl

pub position_other_y : (x y a b : ℕ) → (b ≡ y → ⊥) → is_position (x, y) a b ≡ false
position_other_y x y a b n = ap (λ t. nat_eq a x && t) (neq-eqb b y n) ∙ and_no (nat_eq a x)

pub same_coordinates : (p : ℕ × ℕ) (x y : ℕ) → is_position p x y ≡ true → (x ≡ p.0) × (y ≡ p.1)
same_coordinates p x y h = (eqb-true x p.0 (and_first _ _ h), eqb-true y p.1 (and_second (nat_eq x p.0) _ h))

-- one word is written, in which only the bit x % 64 may have changed
module _ (words : List ℕ) (per_row x y v : ℕ) (s : Bool)
    (inside : y * per_row + x / 64 < length words) (word : x / 64 < per_row)
    (same : nat_eq (bit_at v (x % 64)) 1 ≡ s)
    (others : (i : ℕ) → i < 64 → i ≢ x % 64 → bit_at v i ≡ bit_at (get_or words (y * per_row + x / 64) 0) i) where
  abbrev Written : ℕ → ℕ → Type 0
  Written a b = bit (slice_set words (y * per_row + x / 64) v) per_row a b ≡ (if is_position (x, y) a b then s else bit words per_row a b)

  -- at another word
  elsewhere : (a b : ℕ) → a / 64 < per_row → (b * per_row + a / 64 ≡ y * per_row + x / 64 → ⊥) → is_position (x, y) a b ≡ false
  elsewhere a b h n = elim (cases_eq a x) as (λ _. is_position (x, y) a b ≡ false) [
    | inl e ↦ position_other_y x y a b (λ f. n (ap (λ t. t * per_row + a / 64) f ∙ ap (λ t. y * per_row + t / 64) e))
    | inr m ↦ position_other_x x y a b m
  ]

  by_cases : (a b : ℕ) → a / 64 < per_row → Written a b
  by_cases a b h = elim (cases_eq (b * per_row + a / 64) (y * per_row + x / 64)) as (λ _. Written a b) [
    | inl e ↦
        let rows = same_from_place b (a / 64) y (x / 64) per_row h word e in
        let here = ap (λ i. get_or (slice_set words (y * per_row + x / 64) v) i 0) e ∙ get_or-set_same words (y * per_row + x / 64) v 0 inside in
        elim (cases_eq (a % 64) (x % 64)) as (λ _. Written a b) [
          | inl f ↦
              let column : a ≡ x = omega (arith, rows.1, f) in
              ap (λ w. nat_eq (bit_at w (a % 64)) 1) here ∙ ap (λ k. nat_eq (bit_at v k) 1) f ∙ same
              ∙ sym (ap (λ t. if t then s else bit words per_row a b) (position_same x y a b column rows.0))
          | inr f ↦
              ap (λ w. nat_eq (bit_at w (a % 64)) 1) here
              ∙ ap (λ k. nat_eq k 1) (others (a % 64) (omega arith) f)
              ∙ ap (λ i. nat_eq (bit_at (get_or words i 0) (a % 64)) 1) (sym e)
              ∙ sym (ap (λ t. if t then s else bit words per_row a b) (position_other_x x y a b (λ z. f (ap (λ k. k % 64) z))))
        ]
    | inr n ↦
        ap (λ w. nat_eq (bit_at w (a % 64)) 1) (get_or-set_other words (y * per_row + x / 64) (b * per_row + a / 64) v 0 n)
        ∙ sym (ap (λ t. if t then s else bit words per_row a b) (elsewhere a b h n))
  ]

  pub bit_written : (a b : ℕ) → a / 64 < per_row → bit (slice_set words (y * per_row + x / 64) v) per_row a b ≡ (if is_position (x, y) a b then s else bit words per_row a b)
  bit_written a b h = by_cases a b h

if_turned : (p o s : Bool) → (p ≡ true → s ≡ not o) → (if p then s else o) ≡ turned p o
if_turned true o s h = h refl
if_turned false o s h = refl

turns : (b m : ℕ) → b < 2 → m ≡ 1 → nat_eq ((b + m) % 2) 1 ≡ not (nat_eq b 1)
turns b m h e = grind (arith, nat_tests)

stays : (b m : ℕ) → b < 2 → m ≡ 0 → (b + m) % 2 ≡ b
stays b m h e = omega arith

module _ (words : List ℕ) (per_row x y : ℕ) (inside : y * per_row + x / 64 < length words) (word : x / 64 < per_row) where
  -- with this bit turned
  pub bit_after_turn : (a b : ℕ) → a / 64 < per_row → bit (slice_set words (y * per_row + x / 64) (bit_xor (get_or words (y * per_row + x / 64) 0) (1 * 2 ^ (x % 64) % 2 ^ 64))) per_row a b ≡ turned (is_position (x, y) a b) (bit words per_row a b)
  bit_after_turn a b h =
      let w = get_or words (y * per_row + x / 64) 0 in
      let m : ℕ = 1 * 2 ^ (x % 64) % 2 ^ 64 in
      let one = one_shl (x % 64) 64 (omega arith) in
      bit_written words per_row x y _ (not (bit words per_row x y)) inside word
      (ap (λ k. nat_eq k 1) (bit_at_xor w m (x % 64)) ∙ turns (bit_at w (x % 64)) (bit_at m (x % 64)) (bit_at-lt w (x % 64)) (ap (λ n. bit_at n (x % 64)) one ∙ bit_at-pow_same (x % 64)))
      (λ i k n. bit_at_xor w m i ∙ stays (bit_at w i) (bit_at m i) (bit_at-lt w i) (ap (λ t. bit_at t i) one ∙ bit_at-pow_other (x % 64) i n))
      a b h
      ∙ if_turned (is_position (x, y) a b) (bit words per_row a b) (not (bit words per_row x y)) (λ e.
      let at = same_coordinates (x, y) a b e in (λ i. not (bit words per_row (sym at.0 i) (sym at.1 i))))

pub word_in : (width x : ℕ) → x < width → x / 64 < row_words width
word_in width x h = omega arith

-- the words of a row inside are among all words
pub row_in : (per_row height y : ℕ) → y < height → y * per_row + per_row ≤ per_row * height
row_in per_row height y h = let e : suc y * per_row ≤ height * per_row = mul-le-mul_right per_row h in omega (arith, suc-mul y per_row, mul_comm per_row height)

least : (t : ℕ) → t < 2 → min t 1 ≡ t
least t h = omega arith

-- a word without the bits from `rest` on
pub cut : (old rest i : ℕ) → nat_eq (bit_at (bit_and old (2 ^ rest - 1)) i) 1 ≡ (nat_lt i rest && nat_eq (bit_at old i) 1)
cut old rest i = elim (cases_lt i rest) as (λ _. nat_eq (bit_at (bit_and old (2 ^ rest - 1)) i) 1 ≡ (nat_lt i rest && nat_eq (bit_at old i) 1)) [
  | inl p ↦
      ap (λ k. nat_eq k 1) (bit_at_and old (2 ^ rest - 1) i ∙ ap (λ k. min (bit_at old i) k) (bit_at_ones rest i p) ∙ least (bit_at old i) (bit_at-lt old i))
      ∙ sym (ap (λ t. t && nat_eq (bit_at old i) 1) (lt-ltb i rest p))
  | inr p ↦
      ap (λ k. nat_eq k 1) (bit_at_and old (2 ^ rest - 1) i ∙ ap (λ k. min (bit_at old i) k) (bit_at_ones_above rest i p) ∙ min-zero (bit_at old i))
      ∙ sym (ap (λ t. t && nat_eq (bit_at old i) 1) (le-ltb i rest p))
]

-- the bit of a word that is among the words
pub bit_from_word : (words : List ℕ) (per_row x y v : ℕ) → get_or words (y * per_row + x / 64) 0 ≡ v → bit words per_row x y ≡ nat_eq (bit_at v (x % 64)) 1
bit_from_word words per_row x y v e = ap (λ w. nat_eq (bit_at w (x % 64)) 1) e

pub place_in : (per_row height x y : ℕ) → x / 64 < per_row → y < height → y * per_row + x / 64 < per_row * height
place_in per_row height x y h k = let r = row_in per_row height y k in omega arith

pub no_bit : (i : ℕ) → nat_eq (bit_at 0 i) 1 ≡ false
no_bit i = ap (λ k. nat_eq k 1) (bit_at-zero i)

abbrev zeros : ℕ → List ℕ
zeros k = replicate k 0

zero_at : (k i : ℕ) → get_or (zeros k) i 0 ≡ 0
zero_at k i = elim (cases_lt i k) as (λ _. get_or (zeros k) i 0 ≡ 0) [
  | inl p ↦ get_or-replicate k i 0 0 p
  | inr p ↦ get_or_past (zeros k) i 0 (omega (arith, length-replicate {A = ℕ} k 0, p))
]

-- words of 0 have no bit
pub no_bits : (words : List ℕ) (k per_row x y : ℕ) → words ≡ replicate k 0 → bit words per_row x y ≡ false
no_bits words k per_row x y e = bit_from_word words per_row x y 0 (ap (λ ws. get_or ws (y * per_row + x / 64) 0) e ∙ zero_at k (y * per_row + x / 64)) ∙ no_bit (x % 64)

other_digit : (b : ℕ) → b < 2 → nat_eq (1 - b) 1 ≡ not (nat_eq b 1)
other_digit b h = grind (arith, nat_tests)

pub not_bit : (v i : ℕ) → v < 2 ^ 64 → i < 64 → nat_eq (bit_at (bit_not w64 v) i) 1 ≡ not (nat_eq (bit_at v i) 1)
not_bit v i p q = ap (λ k. nat_eq k 1) (bit_at_not w64 v i p q) ∙ other_digit (bit_at v i) (bit_at-lt v i)

-- ---- bits that are turned

pub turned_other : (b inverted : Bool) → not (beq b inverted) ≡ turned inverted b
turned_other true true = refl
turned_other true false = refl
turned_other false true = refl
turned_other false false = refl

pub turned_not : (inverted b : Bool) → turned (not inverted) b ≡ not (turned inverted b)
turned_not true true = refl
turned_not true false = refl
turned_not false b = refl

pub turned_false : (inverted : Bool) → turned inverted false ≡ inverted
turned_false true = refl
turned_false false = refl

turned_twice : (a b c : Bool) → turned a (turned b c) ≡ turned b (turned a c)
turned_twice true true c = refl
turned_twice true false c = refl
turned_twice false b c = refl

-- where one bit is turned, one position is
pub held_turned : (old new : List ℕ) (per_row : ℕ) (inverted : Bool) (at : ℕ × ℕ) (x y : ℕ)
    → bit new per_row x y ≡ turned (is_position at x y) (bit old per_row x y) → held new per_row inverted x y ≡ turned (is_position at x y) (held old per_row inverted x y)
held_turned old new per_row inverted at x y e = ap (turned inverted) e ∙ turned_twice inverted (is_position at x y) (bit old per_row x y)

pub not_not : (v : Bool) → not (not v) ≡ v
not_not true = refl
not_not false = refl

-- a position that is not as it should be is turned
pub turned_to : (p o v : Bool) → (p ≡ true → o ≡ not v) → turned p o ≡ (if p then v else o)
turned_to true o v h = ap not (h refl) ∙ not_not v
turned_to false o v h = refl

-- words of 0 hold all positions, or none
pub none_held : (words : List ℕ) (per_row : ℕ) (inverted : Bool) (x y : ℕ) → get_or words (y * per_row + x / 64) 0 ≡ 0 → held words per_row inverted x y ≡ inverted
none_held words per_row inverted x y e = ap (turned inverted) (bit_from_word words per_row x y 0 e ∙ no_bit (x % 64)) ∙ turned_false inverted

-- the words of a vector, after one bit of them was turned
pub flipped_held : {Z : Type 0} (v : Vec ℕ Z) (before after : List ℕ) (w h per : ℕ) (inverted : Bool) (at : ℕ × ℕ) → length after ≡ v.len → before ≡ v.items → per ≡ row_words w
    → ((a b : ℕ) → a / 64 < per → bit after per a b ≡ turned (is_position at a b) (bit before per a b))
    → (x y : ℕ) → x < w → y < h → held (with_items v after).items (row_words w) inverted x y ≡ turned (is_position at x y) (held v.items (row_words w) inverted x y)
flipped_held v before after w h per inverted at len same is bits x y p q =
    ap (λ ws. held ws (row_words w) inverted x y) (with_items_is v after len)
    ∙ held_turned before after (row_words w) inverted at x y (subst (λ n. (a b : ℕ) → a / 64 < n → bit after n a b ≡ turned (is_position at a b) (bit before n a b)) is bits x y (word_in w x p))
    ∙ ap (λ ws. turned (is_position at x y) (held ws (row_words w) inverted x y)) same
