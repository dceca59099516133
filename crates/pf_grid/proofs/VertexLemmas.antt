-- The vertices of a grid one after another, and those that are listed.
use Rattle.std.proofs.Common.{◌≡◌, ℕ, zero, suc, ◌+◌, ◌-◌, ◌*◌, ◌/◌, ◌%◌, ◌^◌, ◌<◌, ◌≤◌, ◌∙◌, sym, refl, ap, arith, inl, inr, Bool, true, false, true≢false, ◌||◌, List, [], ◌∷◌, ◌++◌, length, get_or, map, take, max}
use Rattle.std.specs.Prelude.{if◌then◌else◌, ◌⊎◌}
use Rattle.std.specs.List.{range_with_len, filter, list_any}
use Rattle.std.proofs.Math.Nat.{mul_comm, suc-mul, mul-le-mul_left}
use Rattle.std.proofs.lemmas.Bool.{cases_lt, cases_Bool, cases_eq}
use Rattle.std.proofs.lemmas.Nat.{mul-add-lt, div-mul-add, mod-mul-add}
use Rattle.std.proofs.lemmas.List.{take_more}
use Rattle.std.proofs.lemmas.List.Sums.{length-filter, count_by-le-length}
use Rattle.std.proofs.lemmas.List.FromFn.{length-map-range_with_len}
use Rattle.pf_grid.specs.GridPositions.{Positions, IsGrid, has, is_position}
use Rattle.pf_grid.specs.Vertices.{vertices_from, vertices_of, position_of, listed, extent}
use Rattle.pf_grid.proofs.CellLemmas.{has_is_inside}
use Rattle.pf_grid.proofs.WordLemmas.{position_same, same_coordinates}

or_cases : (a b : Bool) → (a || b) ≡ true → (a ≡ true) ⊎ (b ≡ true)
or_cases true b h = inl refl
or_cases false b h = inr h

or_right : (a b : Bool) → b ≡ true → (a || b) ≡ true
or_right true b h = refl
or_right false b h = h

swapped : (a b c : Bool) → (a || (b || c)) ≡ (b || (a || c))
swapped true true c = refl
swapped true false c = refl
swapped false true c = refl
swapped false false c = refl

module _ (g : Positions) where
  abbrev w : ℕ
  w = g.width

  abbrev total : ℕ
  total = g.width * g.height

  abbrev kept : ℕ × ℕ → Bool
  kept p = has g p.0 p.1

  -- n places from k on
  left : ℕ → ℕ → List (ℕ × ℕ)
  left k n = filter kept (map (position_of g.width) (range_with_len k n))

  left_skip : (k n : ℕ) → has g (k % w) (k / w) ≡ false → left k (suc n) ≡ left (k + 1) n
  unfolding left
  left_skip k n h = ap (λ b. if b then position_of w k ∷ left (k + 1) n else left (k + 1) n) h

  left_take : (k n : ℕ) → has g (k % w) (k / w) ≡ true → left k (suc n) ≡ (k % w, k / w) ∷ left (k + 1) n
  unfolding left
  left_take k n h = ap (λ b. if b then position_of w k ∷ left (k + 1) n else left (k + 1) n) h

  left_none : (k n : ℕ) → ((i : ℕ) → k ≤ i → i < k + n → has g (i % w) (i / w) ≡ false) → left k n ≡ []
  unfolding left
  left_none k zero none = refl
  left_none k (suc n) none = left_skip k n (none k (omega arith) (omega arith)) ∙ left_none (k + 1) n (λ i p q. none i (omega arith) (omega arith))

  left_at : (k : ℕ) → vertices_from g k ≡ left k (total - k)
  unfolding vertices_from left
  left_at k = refl

  -- the vertex at place k, and those after it
  pub vertices_take : (k : ℕ) → k < total → has g (k % w) (k / w) ≡ true → vertices_from g k ≡ (k % w, k / w) ∷ vertices_from g (k + 1)
  vertices_take k p h =
      let e : total - k ≡ suc (total - (k + 1)) = omega arith in
      left_at k ∙ ap (λ n. left k n) e ∙ left_take k (total - (k + 1)) h ∙ ap (λ l. (k % w, k / w) ∷ l) (sym (left_at (k + 1)))

  pub vertices_end : (k : ℕ) → total ≤ k → vertices_from g k ≡ []
  vertices_end k h = left_at k ∙ left_none k (total - k) (λ i p q. absurd (omega arith))

  -- places at which there is no vertex
  skip_by : (n k : ℕ) → ((i : ℕ) → k ≤ i → i < k + n → has g (i % w) (i / w) ≡ false) → vertices_from g k ≡ vertices_from g (k + n)
  skip_by zero k none = let e : k ≡ k + 0 = omega arith in ap (vertices_from g) e
  skip_by (suc n) k none =
      let e : k + 1 + n ≡ k + suc n = omega arith in
      elim (cases_lt k total) as (λ _. vertices_from g k ≡ vertices_from g (k + suc n)) [
        | inl p ↦
            let f : total - k ≡ suc (total - (k + 1)) = omega arith in
            left_at k ∙ ap (λ m. left k m) f ∙ left_skip k (total - (k + 1)) (none k (omega arith) (omega arith)) ∙ sym (left_at (k + 1))
            ∙ skip_by n (k + 1) (λ i p q. none i (omega arith) (omega arith)) ∙ ap (vertices_from g) e
        | inr p ↦ vertices_end k p ∙ sym (vertices_end (k + suc n) (omega arith))
      ]

  at_place : (x y : ℕ) → x < w → has g ((y * w + x) % w) ((y * w + x) / w) ≡ has g x y
  at_place x y h = (λ i. has g (mod-mul-add y w x h i) (div-mul-add y w x h i))

  -- in the row y there is no vertex from x up to the place i
  pub row_skip : (x i y : ℕ) → x ≤ i → i ≤ w → ((j : ℕ) → x ≤ j → j < i → has g j y ≡ false) → vertices_from g (y * w + x) ≡ vertices_from g (y * w + i)
  row_skip x i y h k none =
      let e : y * w + x + (i - x) ≡ y * w + i = omega arith in
      skip_by (i - x) (y * w + x) (λ j p q.
      let here : y * w + (j - y * w) ≡ j = omega arith in
      sym (ap (λ n. has g (n % w) (n / w)) here) ∙ at_place (j - y * w) y (omega arith) ∙ none (j - y * w) (omega arith) (omega arith))
      ∙ ap (vertices_from g) e

  pub row_take : (x y : ℕ) → x < w → y < g.height → has g x y ≡ true → vertices_from g (y * w + x) ≡ (x, y) ∷ vertices_from g (y * w + (x + 1))
  row_take x y p q h =
      let e : y * w + x + 1 ≡ y * w + (x + 1) = omega arith in
      vertices_take (y * w + x) (omega (arith, mul-add-lt y w x g.height q p, mul_comm g.height w)) (at_place x y p ∙ h)
      ∙ (λ i. (mod-mul-add y w x p i, div-mul-add y w x p i) ∷ vertices_from g (e i))

  pub next_row : (x y : ℕ) → x ≤ w → ((j : ℕ) → x ≤ j → has g j y ≡ false) → vertices_from g (y * w + x) ≡ vertices_from g ((y + 1) * w + 0)
  next_row x y h none =
      let e : y * w + w ≡ (y + 1) * w + 0 = omega (arith, suc-mul y w) in
      row_skip x w y h (omega arith) (λ j p q. none j p) ∙ ap (vertices_from g) e

  left_length : (k n : ℕ) → length (left k n) ≤ n
  unfolding left
  left_length k n = omega (arith, length-filter kept (map (position_of g.width) (range_with_len k n)), count_by-le-length kept (map (position_of g.width) (range_with_len k n)), length-map-range_with_len (position_of g.width) k n)

  pub vertices_fit : IsGrid g → length (vertices_of g) < 2 ^ 64
  vertices_fit ok = omega (arith, ap length (left_at 0), left_length 0 (total - 0), ok.fits)

-- ---- vertices that are listed

module _ (g : Positions) where
  -- what is listed is a vertex
  listed_left : (k n x y : ℕ) → listed (left g k n) x y ≡ true → has g x y ≡ true
  unfolding left
  listed_left k zero x y h = absurd (true≢false (sym h))
  listed_left k (suc n) x y h = elim (cases_Bool (has g (k % g.width) (k / g.width))) as (λ _. has g x y ≡ true) [
    | inl e ↦ elim (or_cases (is_position (k % g.width, k / g.width) x y) _ (sym (ap (λ l. listed l x y) (left_take g k n e)) ∙ h)) as (λ _. has g x y ≡ true) [
      | inl i ↦ let at = same_coordinates (k % g.width, k / g.width) x y i in (λ j. has g (at.0 j) (at.1 j)) ∙ e
      | inr i ↦ listed_left (k + 1) n x y i
    ]
    | inr e ↦ listed_left (k + 1) n x y (sym (ap (λ l. listed l x y) (left_skip g k n e)) ∙ h)
  ]

  left_listed : (k n x y : ℕ) → x < g.width → k ≤ y * g.width + x → y * g.width + x < k + n → has g x y ≡ true → listed (left g k n) x y ≡ true
  unfolding left
  left_listed k zero x y w p q h = absurd (omega arith)
  left_listed k (suc n) x y w p q h = elim (cases_eq k (y * g.width + x)) as (λ _. listed (left g k (suc n)) x y ≡ true) [
    | inl e ↦
        let here : has g (k % g.width) (k / g.width) ≡ true = ap (λ m. has g (m % g.width) (m / g.width)) e ∙ at_place g x y w ∙ h in
        let column : x ≡ k % g.width = sym (ap (λ m. m % g.width) e ∙ mod-mul-add y g.width x w) in
        let row : y ≡ k / g.width = sym (ap (λ m. m / g.width) e ∙ div-mul-add y g.width x w) in
        ap (λ l. listed l x y) (left_take g k n here) ∙ ap (λ b. b || listed (left g (k + 1) n) x y) (position_same (k % g.width) (k / g.width) x y column row)
    | inr d ↦
        let rest = left_listed (k + 1) n x y w (omega arith) (omega arith) h in
        elim (cases_Bool (has g (k % g.width) (k / g.width))) as (λ _. listed (left g k (suc n)) x y ≡ true) [
          | inl e ↦ ap (λ l. listed l x y) (left_take g k n e) ∙ or_right (is_position (k % g.width, k / g.width) x y) _ rest
          | inr e ↦ ap (λ l. listed l x y) (left_skip g k n e) ∙ rest
        ]
  ]

  -- the vertices are listed, and nothing else
  pub listed_vertices : (x y : ℕ) → listed (vertices_of g) x y ≡ has g x y
  listed_vertices x y = ap (λ l. listed l x y) (left_at g 0) ∙ elim (cases_Bool (has g x y)) as (λ _. listed (left g 0 (g.width * g.height - 0)) x y ≡ has g x y) [
    | inl e ↦
        let inside = has_is_inside g x y e in
        left_listed 0 (g.width * g.height - 0) x y inside.0 (omega arith) (omega (arith, mul-add-lt y g.width x g.height inside.1 inside.0, mul_comm g.height g.width)) e ∙ sym e
    | inr e ↦ elim (cases_Bool (listed (left g 0 (g.width * g.height - 0)) x y)) as (λ _. listed (left g 0 (g.width * g.height - 0)) x y ≡ has g x y) [
      | inl l ↦ absurd (true≢false (sym (listed_left 0 (g.width * g.height - 0) x y l) ∙ e))
      | inr l ↦ l ∙ sym e
    ]
  ]

pub any_more : {X : Type 0} (test : X → Bool) (ps : List X) (p : X) → list_any test (ps ++ p ∷ []) ≡ (test p || list_any test ps)
any_more test [] p = refl
any_more test (q ∷ ps) p = ap (λ t. test q || t) (any_more test ps p) ∙ swapped (test q) (test p) (list_any test ps)

-- ---- the sizes that reach all positions

module _ (at : ℕ × ℕ → ℕ) where
  pub extent_at : (ps : List (ℕ × ℕ)) (i : ℕ) (d : ℕ × ℕ) → i < length ps → at (get_or ps i d) + 1 ≤ extent at ps
  extent_at [] i d h = absurd (omega (arith, h))
  extent_at (p ∷ ps) zero d h = omega arith
  extent_at (p ∷ ps) (suc i) d h = let r = extent_at ps i d (omega (arith, h)) in omega (arith, r)

  extent_push : (ps : List (ℕ × ℕ)) (p : ℕ × ℕ) → extent at (ps ++ p ∷ []) ≡ max (extent at ps) (at p + 1)
  extent_push [] p = omega arith
  extent_push (q ∷ ps) p = let r = extent_push ps p in omega (arith, r)

  pub extent_more : (ps : List (ℕ × ℕ)) (i : ℕ) (d : ℕ × ℕ) → i < length ps → extent at (take (i + 1) ps) ≡ max (extent at (take i ps)) (at (get_or ps i d) + 1)
  extent_more ps i d h = ap (extent at) (take_more ps i d h) ∙ extent_push (take i ps) (get_or ps i d)

pub product_large : (a b : ℕ) → 2 ^ 64 ≤ a → 1 ≤ b → 2 ^ 64 ≤ a * b
product_large a b p q = let e : a * 1 ≤ a * b = mul-le-mul_left a q in omega (arith, e)
