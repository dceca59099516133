-- Rows that stand one behind the other in a list, with the offsets at which they begin.
use Rattle.std.proofs.Common.{◌≡◌, ◌≢◌, ℕ, zero, suc, ◌+◌, ◌-◌, ◌<◌, ◌≤◌, List, [], ◌∷◌, ◌++◌, take, drop, length, get_or, refl, sym, ap, ◌∙◌, subst, arith, length-append, inl, inr}
use Rattle.std.specs.Prelude.{◌⊎◌}
use Rattle.std.proofs.Math.ListN.{get_or-append}
use Rattle.std.proofs.Math.Seq.{get_or-append_seam, drop-append_seam, take-length}
use Rattle.std.proofs.lemmas.List.{take-append-le, drop-append-le, length-drop}

nat_dec : (j k : ℕ) → (j ≡ k) ⊎ (j ≢ k)
nat_dec zero zero = inl refl
nat_dec zero (suc k) = inr (omega arith)
nat_dec (suc j) zero = inr (omega arith)
nat_dec (suc j) (suc k) = elim (nat_dec j k) as (λ _. (suc j ≡ suc k) ⊎ (suc j ≢ suc k)) [ inl e ↦ inl (ap suc e) | inr e ↦ inr (omega (arith, e)) ]

module _ {X : Type 0} where
  pub record IsTable (offsets : List ℕ) (items : List X) (rows : List (List X)) : Type 0 where
    pub len : length offsets ≡ length rows + 1
    pub last : get_or offsets (length rows) 0 ≡ length items
    pub within : (n : ℕ) → n < length offsets → get_or offsets n 0 ≤ length items
    pub ordered : (n : ℕ) → n < length rows → get_or offsets n 0 ≤ get_or offsets (n + 1) 0
    pub same : (n : ℕ) → n < length rows → take (get_or offsets (n + 1) 0 - get_or offsets n 0) (drop (get_or offsets n 0) items) ≡ get_or rows n []

  pub no_rows : (offsets : List ℕ) (items : List X) → offsets ≡ 0 ∷ [] → items ≡ [] → IsTable offsets items []
  no_rows offsets items e f = subst (λ os. IsTable os items []) (sym e) (subst (λ xs. IsTable (0 ∷ []) xs []) (sym f) (record {
    len = refl;
    last = refl;
    within = λ n lt. let z : n ≡ 0 = omega (arith, lt) in subst (λ k. get_or (0 ∷ []) k 0 ≤ 0) (sym z) (omega arith);
    ordered = λ n lt. absurd (omega (arith, lt));
    same = λ n lt. absurd (omega (arith, lt));
  }))

  module _ (offsets : List ℕ) (items : List X) (rows : List (List X)) (t : IsTable offsets items rows) (row : List X) where
    more : List ℕ
    more = offsets ++ (length items + length row) ∷ []

    old : (n : ℕ) → n < length offsets → get_or (offsets ++ (length items + length row) ∷ []) n 0 ≡ get_or offsets n 0
    old n lt = get_or-append offsets ((length items + length row) ∷ []) 0 n lt

    new : get_or (offsets ++ (length items + length row) ∷ []) (length rows + 1) 0 ≡ length items + length row
    new = subst (λ k. get_or (offsets ++ (length items + length row) ∷ []) k 0 ≡ length items + length row) t.len (get_or-append_seam offsets (length items + length row) [] 0)

    cases : (n k : ℕ) → n < k + 1 → (n < k) ⊎ (n ≡ k)
    cases n k lt = elim (nat_dec n k) as (λ _. (n < k) ⊎ (n ≡ k)) [ inl e ↦ inr e | inr e ↦ inl (omega (arith, e, lt)) ]

    -- what stood among the items stands there still
    part_stays : (a b : ℕ) → a ≤ b → b ≤ length items → take (b - a) (drop a (items ++ row)) ≡ take (b - a) (drop a items)
    part_stays a b ab bl = ap (take (b - a)) (drop-append-le a items row (omega (arith, ab, bl))) ∙ take-append-le (b - a) (drop a items) row (omega (arith, length-drop a items, ab, bl))

    part_new : (a b : ℕ) → a ≡ length items → b ≡ length items + length row → take (b - a) (drop a (items ++ row)) ≡ row
    part_new a b e f =
        let k : b - a ≡ length row = omega (arith, e, f) in
        ap (λ n. take n (drop a (items ++ row))) k ∙ ap (λ n. take (length row) (drop n (items ++ row))) e ∙ ap (take (length row)) (drop-append_seam items row) ∙ take-length row

    pub row_added : IsTable (offsets ++ (length items + length row) ∷ []) (items ++ row) (rows ++ row ∷ [])
    row_added = record {
      len = omega (arith, length-append offsets ((length items + length row) ∷ []), length-append rows (row ∷ []), t.len);
      last = ap (λ k. get_or (offsets ++ (length items + length row) ∷ []) k 0) (length-append rows (row ∷ [])) ∙ new ∙ sym (length-append items row);
      within = λ n lt. elim (cases n (length offsets) (omega (arith, lt, length-append offsets ((length items + length row) ∷ [])))) as (λ _. get_or (offsets ++ (length items + length row) ∷ []) n 0 ≤ length (items ++ row)) [
        | inl b ↦ omega (arith, old n b, t.within n b, length-append items row)
        | inr e ↦ omega (arith, ap (λ k. get_or (offsets ++ (length items + length row) ∷ []) k 0) (e ∙ t.len), new, length-append items row)
      ];
      ordered = λ n lt. elim (cases n (length rows) (omega (arith, lt, length-append rows (row ∷ [])))) as (λ _. get_or (offsets ++ (length items + length row) ∷ []) n 0 ≤ get_or (offsets ++ (length items + length row) ∷ []) (n + 1) 0) [
        | inl b ↦ omega (arith, old n (omega (arith, b, t.len)), old (n + 1) (omega (arith, b, t.len)), t.ordered n b)
        | inr e ↦ omega (arith, old n (omega (arith, e, t.len)), t.within n (omega (arith, e, t.len)), ap (λ k. get_or (offsets ++ (length items + length row) ∷ []) (k + 1) 0) e, new)
      ];
      same = λ n lt. elim (cases n (length rows) (omega (arith, lt, length-append rows (row ∷ [])))) as (λ _. take (get_or (offsets ++ (length items + length row) ∷ []) (n + 1) 0 - get_or (offsets ++ (length items + length row) ∷ []) n 0) (drop (get_or (offsets ++ (length items + length row) ∷ []) n 0) (items ++ row)) ≡ get_or (rows ++ row ∷ []) n []) [
        | inl b ↦
            let o = old n (omega (arith, b, t.len)) in
            let p = old (n + 1) (omega (arith, b, t.len)) in
            rw (o, p) (part_stays (get_or offsets n 0) (get_or offsets (n + 1) 0) (t.ordered n b) (t.within (n + 1) (omega (arith, b, t.len))) ∙ t.same n b ∙ sym (get_or-append rows (row ∷ []) [] n b))
        | inr e ↦
            let a : get_or (offsets ++ (length items + length row) ∷ []) n 0 ≡ length items = old n (omega (arith, e, t.len)) ∙ ap (λ k. get_or offsets k 0) e ∙ t.last in
            let b : get_or (offsets ++ (length items + length row) ∷ []) (n + 1) 0 ≡ length items + length row = ap (λ k. get_or (offsets ++ (length items + length row) ∷ []) (k + 1) 0) e ∙ new in
            part_new _ _ a b ∙ sym (ap (λ k. get_or (rows ++ row ∷ []) k []) e ∙ get_or-append_seam rows row [] [])
      ];
    }
