-- How many vertices there are.
use Rattle.std.proofs.Common.{◌≡◌, ℕ, ◌+◌, ◌*◌, ◌/◌, ◌%◌, ◌<◌, ◌≤◌, ◌∙◌, sym, refl, ap, arith, inl, inr, Bool, true, false, not, cond, List, [], ◌∷◌, length, get_or, set, map}
use Rattle.std.specs.List.{range_with_len, count_by}
use Rattle.std.proofs.lemmas.Bool.{cases_eq, cases_Bool}
use Rattle.std.proofs.lemmas.List.{same_lists, length-set, get_or-set_same, get_or-set_other}
use Rattle.std.proofs.lemmas.List.FromFn.{length-range_with_len}
use Rattle.std.proofs.lemmas.List.Sums.{sum_by-cons, sum_by-set, sum_by-le-sum_by}
use Rattle.std.proofs.lemmas.Nat.{mul-add-lt, div-mul-add, mod-mul-add}
use Rattle.std.proofs.Math.Nat.{mul_comm}
use Rattle.pf_grid.specs.GridPositions.{Positions, IsGrid, cells_of, has, is_position, vertex_count, with_vertices}
use Rattle.pf_grid.specs.Internal.Words.{turned}
use Rattle.pf_grid.proofs.CellLemmas.{length-cells_of, cell_at, cell_of, column_at, row_at, place_split, itself}
use Rattle.pf_grid.proofs.WordLemmas.{not_not, position_same, same_coordinates}

abbrev yes : Bool → Bool
yes c = c

counted : {X : Type 0} (p : X → Bool) (xs : List X) → count_by yes (map p xs) ≡ count_by p xs
counted p [] = refl
counted p (x ∷ xs) =
    sum_by-cons (λ c. cond (yes c) 1 0) (p x) (map p xs) ∙ ap (λ k. cond (p x) 1 0 + k) (counted p xs) ∙ sym (sum_by-cons (λ i. cond (p i) 1 0) x xs)

-- ---- all positions, or none

count_same : (b : Bool) (xs : List ℕ) → count_by (λ x. b) xs ≡ cond b (length xs) 0
count_same true [] = refl
count_same true (x ∷ xs) = let e = count_same true xs in omega (arith, e, sum_by-cons (λ (i : ℕ). 1) x xs)
count_same false [] = refl
count_same false (x ∷ xs) = let e = count_same false xs in omega (arith, e, sum_by-cons (λ (i : ℕ). 0) x xs)

pub count_all : (b : Bool) (w h : ℕ) → count_by yes (cells_of w h (λ x y. b)) ≡ cond b (w * h) 0
unfolding cells_of
count_all b w h = counted (λ k. b) (range_with_len 0 (w * h)) ∙ count_same b (range_with_len 0 (w * h)) ∙ ap (λ n. cond b n 0) (length-range_with_len 0 (w * h))

-- ---- the other positions

either : (b : Bool) → cond b 1 0 + cond (not b) 1 0 ≡ 1
either true = refl
either false = refl

count_others : (p : ℕ → Bool) (xs : List ℕ) → count_by p xs + count_by (λ x. not (p x)) xs ≡ length xs
count_others p [] = refl
count_others p (x ∷ xs) =
    omega (arith, count_others p xs, either (p x), sum_by-cons (λ i. cond (p i) 1 0) x xs, sum_by-cons (λ i. cond (not (p i)) 1 0) x xs)

pub count_not : (w h : ℕ) (f : ℕ → ℕ → Bool) → count_by yes (cells_of w h f) + count_by yes (cells_of w h (λ x y. not (f x y))) ≡ w * h
unfolding cells_of
count_not w h f =
    let ks = range_with_len 0 (w * h) in
    let p = λ (k : ℕ). f (k % w) (k / w) in
    omega (arith, counted p ks, counted (λ k. not (p k)) ks, count_others p ks, length-range_with_len 0 (w * h))

-- ---- one position more or less

-- the cells where one test is turned at one position
module _ (w h : ℕ) (f g : ℕ → ℕ → Bool) (x y : ℕ) (column : x < w) (row : y < h)
    (turns : (a b : ℕ) → a < w → b < h → g a b ≡ turned (is_position (x, y) a b) (f a b)) where
  place : y * w + x < w * h
  place = omega (arith, mul-add-lt y w x h row column, mul_comm w h)

  elsewhere : (k : ℕ) → (k ≡ y * w + x → ⊥) → is_position (x, y) (k % w) (k / w) ≡ false
  elsewhere k n = elim (cases_Bool (is_position (x, y) (k % w) (k / w))) as (λ _. is_position (x, y) (k % w) (k / w) ≡ false) [
    | inl e ↦ let at = same_coordinates (x, y) (k % w) (k / w) e in absurd (n (sym (place_split w k) ∙ (λ i. at.1 i * w + at.0 i)))
    | inr e ↦ e
  ]

  cells_turned : cells_of w h g ≡ set (cells_of w h f) (y * w + x) (g x y)
  cells_turned = same_lists _ _ (length-cells_of w h g ∙ sym (length-set (cells_of w h f) (y * w + x) (g x y) ∙ length-cells_of w h f)) (λ k d p.
      let small : k < w * h = omega (arith, length-cells_of w h g) in
      cell_at w h g k d small ∙ elim (cases_eq k (y * w + x)) as (λ _. g (k % w) (k / w) ≡ get_or (set (cells_of w h f) (y * w + x) (g x y)) k d) [
        | inl e ↦
            ap (λ n. g (n % w) (n / w)) e ∙ (λ i. g (mod-mul-add y w x column i) (div-mul-add y w x column i))
            ∙ sym (ap (λ n. get_or (set (cells_of w h f) (y * w + x) (g x y)) n d) e ∙ get_or-set_same (cells_of w h f) (y * w + x) (g x y) d (omega (arith, place, length-cells_of w h f)))
        | inr n ↦
            turns (k % w) (k / w) (column_at w h k small) (row_at w h k small) ∙ ap (λ t. turned t (f (k % w) (k / w))) (elsewhere k n)
            ∙ sym (get_or-set_other (cells_of w h f) (y * w + x) k (g x y) d n ∙ cell_at w h f k d small)
      ])

  pub count_turned : (v : Bool) → f x y ≡ not v → count_by yes (cells_of w h g) + cond (not v) 1 0 ≡ count_by yes (cells_of w h f) + cond v 1 0
  count_turned v was =
      let before = cell_of w h f x y false column row ∙ was in
      let after = turns x y column row ∙ ap (λ t. turned t (f x y)) (position_same x y x y refl refl) ∙ ap not was ∙ not_not v in
      omega (
        arith,
        ap (count_by yes) cells_turned,
        ap (λ b. cond {A = ℕ} b 1 0) before,
        ap (λ b. cond {A = ℕ} b 1 0) after,
        sum_by-set (λ b. cond b 1 0) (cells_of w h f) (y * w + x) (g x y) false (omega (arith, place, length-cells_of w h f)),
      )

-- ---- fewer vertices

if_so : (a b : Bool) → (a ≡ true → b ≡ true) → cond a 1 0 ≤ cond b 1 0
if_so true b h = let e : cond b 1 0 ≡ 1 = ap (λ (t : Bool). cond {A = ℕ} t 1 0) (h refl) in omega (arith, e)
if_so false b h = omega arith

pub fewer : (w h : ℕ) (f g : ℕ → ℕ → Bool) → ((x y : ℕ) → f x y ≡ true → g x y ≡ true) → count_by yes (cells_of w h f) ≤ count_by yes (cells_of w h g)
unfolding cells_of
fewer w h f g e =
    let ks = range_with_len 0 (w * h) in
    let a = λ (k : ℕ). f (k % w) (k / w) in
    let b = λ (k : ℕ). g (k % w) (k / w) in
    omega (arith, counted a ks, counted b ks, sum_by-le-sum_by (λ k. cond (a k) 1 0) (λ k. cond (b k) 1 0) ks (λ k. if_so (a k) (b k) (e (k % w) (k / w))))

-- a grid whose vertices are among those that a test has, by its own
pub fewer_own : (g : Positions) (t : ℕ → ℕ → Bool) → IsGrid g → ((x y : ℕ) → has g x y ≡ true → t x y ≡ true) → vertex_count g ≤ vertex_count (with_vertices g t)
fewer_own g t ok e = omega (arith, ap vertex_count (itself g ok), fewer g.width g.height (has g) t e)

pub more_own : (g : Positions) (t : ℕ → ℕ → Bool) → IsGrid g → ((x y : ℕ) → t x y ≡ true → has g x y ≡ true) → vertex_count (with_vertices g t) ≤ vertex_count g
more_own g t ok e = omega (arith, ap vertex_count (itself g ok), fewer g.width g.height t (has g) e)
