-- Rows that stand one behind the other in one block.
use Rattle.std.proofs.Common.{◌≡◌, ℕ, zero, suc, ◌+◌, ◌-◌, ◌<◌, ◌≤◌, ◌∙◌, refl, sym, ap, subst, arith, List, [], ◌∷◌, ◌++◌, length, take, drop, get_or}
use Rattle.std.proofs.lemmas.List.{length-drop, take_all, take-append-le, drop-append-le, drop-drop}
use Rattle.pf_yen.specs.Internal.Rows.{rows_from, AreEnds, row_begin}

-- the first end is not behind the last
pub within : (es : List ℕ) (from n : ℕ) → AreEnds from es n → from ≤ n
within [] from n h = omega (arith, h)
within (e ∷ es) from n h = let i = within es e n h.1 in omega (arith, h.0, i)

pub ends_more : (es : List ℕ) (from n m : ℕ) → AreEnds from es n → n ≤ m → AreEnds from (es ++ m ∷ []) m
ends_more [] from n m h l = (omega (arith, h, l), refl)
ends_more (e ∷ es) from n m h l = (h.0, ends_more es e n m h.1 l)

row_begin_behind : (e from : ℕ) (es : List ℕ) (i : ℕ) → row_begin from (e ∷ es) (suc i) ≡ row_begin e es i
row_begin_behind e from es zero = refl
row_begin_behind e from es (suc i) = refl

-- a row lies within the block
pub bounds : (es : List ℕ) (from n i : ℕ) → AreEnds from es n → i < length es → (from ≤ row_begin from es i) × (row_begin from es i ≤ get_or es i 0) × (get_or es i 0 ≤ n)
bounds [] from n i h l = absurd (omega (arith, l))
bounds (e ∷ es) from n zero h l = (omega arith, h.0, within es e n h.1)
bounds (e ∷ es) from n (suc i) h l =
    let b = bounds es e n i h.1 (omega (arith, l)) in
    subst (λ (k : ℕ). (from ≤ k) × (k ≤ get_or es i 0) × (get_or es i 0 ≤ n)) (sym (row_begin_behind e from es i)) (omega (arith, h.0, b.0), b.1, b.2)

module _ {X : Type 0} where
  pub row_count : (es : List ℕ) (from : ℕ) (xs : List X) → length (rows_from from es xs) ≡ length es
  row_count [] from xs = refl
  row_count (e ∷ es) from xs = ap suc (row_count es e (drop (e - from) xs))

  empty : (xs : List X) → length xs ≡ 0 → xs ≡ []
  empty [] h = refl
  empty (x ∷ xs) h = absurd (omega (arith, h))

  -- a row more
  pub row_more : (es : List ℕ) (from n : ℕ) (xs row : List X) → AreEnds from es n → from + length xs ≡ n → rows_from from (es ++ (n + length row) ∷ []) (xs ++ row) ≡ rows_from from es xs ++ row ∷ []
  row_more [] from n xs row h l =
      let none : xs ≡ [] = empty xs (omega (arith, h, l)) in
      let all : take ((n + length row) - from) row ≡ row = take_all ((n + length row) - from) row (omega (arith, h)) in
      subst (λ (v : List X). take ((n + length row) - from) (v ++ row) ∷ [] ≡ row ∷ []) (sym none) (ap (λ (v : List X). v ∷ []) all)
  row_more (e ∷ es) from n xs row h l =
      let i = within es e n h.1 in
      let inside : (e - from) ≤ length xs = omega (arith, h.0, i, l) in
      let rest : e + length (drop (e - from) xs) ≡ n = (let d = length-drop (e - from) xs in omega (arith, d, h.0, i, l)) in
      let more = row_more es e n (drop (e - from) xs) row h.1 rest in
      let first : take (e - from) (xs ++ row) ≡ take (e - from) xs = take-append-le (e - from) xs row inside in
      let behind : drop (e - from) (xs ++ row) ≡ drop (e - from) xs ++ row = drop-append-le (e - from) xs row inside in
      ap (λ (v : List X). v ∷ rows_from e (es ++ (n + length row) ∷ []) (drop (e - from) (xs ++ row))) first
      ∙ ap (λ (v : List X). take (e - from) xs ∷ rows_from e (es ++ (n + length row) ∷ []) v) behind
      ∙ ap (λ (v : List (List X)). take (e - from) xs ∷ v) more

  pub row_is : (es : List ℕ) (from n i : ℕ) (xs : List X) → AreEnds from es n → i < length es → get_or (rows_from from es xs) i [] ≡ take (get_or es i 0 - row_begin from es i) (drop (row_begin from es i - from) xs)
  row_is [] from n i xs h l = absurd (omega (arith, l))
  row_is (e ∷ es) from n zero xs h l = let z : (from - from) ≡ 0 = omega arith in subst (λ (k : ℕ). take (e - from) xs ≡ take (e - from) (drop k xs)) (sym z) refl
  row_is (e ∷ es) from n (suc i) xs h l =
      let b = bounds es e n i h.1 (omega (arith, l)) in
      let r = row_is es e n i (drop (e - from) xs) h.1 (omega (arith, l)) in
      let sum : (e - from) + (row_begin e es i - e) ≡ row_begin e es i - from = omega (arith, h.0, b.0) in
      let at : drop (row_begin e es i - e) (drop (e - from) xs) ≡ drop (row_begin e es i - from) xs = drop-drop (row_begin e es i - e) (e - from) xs ∙ ap (λ (k : ℕ). drop k xs) sum in
      subst (λ (k : ℕ). get_or (rows_from e es (drop (e - from) xs)) i [] ≡ take (get_or es i 0 - k) (drop (k - from) xs)) (sym (row_begin_behind e from es i)) (r ∙ ap (λ (v : List X). take (get_or es i 0 - row_begin e es i) v) at)

-- a row of a block, by the places at which it begins and ends
pub row_here : {X : Type 0} (es : List ℕ) (n i : ℕ) (xs : List X) → AreEnds 0 es n → i < length es → get_or (rows_from 0 es xs) i [] ≡ take (get_or es i 0 - row_begin 0 es i) (drop (row_begin 0 es i) xs)
row_here es n i xs h l = let z : row_begin 0 es i - 0 ≡ row_begin 0 es i = omega arith in row_is es 0 n i xs h l ∙ ap (λ (k : ℕ). take (get_or es i 0 - row_begin 0 es i) (drop k xs)) z
