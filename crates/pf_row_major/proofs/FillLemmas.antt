-- A list that is filled by rows, position after position.
use Rattle.std.proofs.Common.{◌≡◌, ℕ, ◌+◌, ◌-◌, ◌*◌, ◌<◌, sym, ap, subst, ◌∙◌, arith, List, [], ◌∷◌, ◌++◌, length, length-append, get_or, inl, inr}
use Rattle.std.specs.List.{AllZip}
use Rattle.std.proofs.lemmas.Bool.{cases_lt, cases_eq}
use Rattle.std.proofs.lemmas.Nat.{same_from_place}
use Rattle.std.proofs.lemmas.List.{get_or_append_left, get_or-append_right, get_or_at, length_push}
use Rattle.std.proofs.lemmas.List.Elements.{AllZip-get_or, length_all_zip}
use Rattle.pf_row_major.proofs.SliceLemmas.{row_before}

-- of w columns, the first `at` places are filled, each with what stands to the value at `place r c` of xs as `like` says
pub record Filling {X Y : Type 0} (like : X → Y → Type 0) (w : ℕ) (place : ℕ → ℕ → ℕ) (xs : List X) (ys : List Y) (at : ℕ) : Type 0 where
  pub size : length ys ≡ at
  pub values : (r c : ℕ) (d : X) (e : Y) → c < w → r * w + c < at → like (get_or xs (place r c) d) (get_or ys (r * w + c) e)

module _ {X Y : Type 0} (like : X → Y → Type 0) (w : ℕ) (place : ℕ → ℕ → ℕ) (xs : List X) (ys : List Y) where
  pub fill_none : ys ≡ [] → Filling like w place xs ys 0
  fill_none e = record { size = ap length e; values = λ r c d y h k. absurd (omega arith) }

  -- the same at the begin of the first row
  pub fill_begin : ys ≡ [] → Filling like w place xs ys (0 * w)
  fill_begin e = let none : 0 * w ≡ 0 = omega arith in rw none (fill_none e)

  -- one value more, at row r and column c
  pub fill_one : (r c : ℕ) (y : Y) → c < w → ((d : X) → like (get_or xs (place r c) d) y) → Filling like w place xs ys (r * w + c) → Filling like w place xs (ys ++ y ∷ []) (r * w + c + 1)
  fill_one r c y inside right f = record {
    size = length_push ys y ∙ ap (λ n. n + 1) f.size;
    values = λ s k d e h b. elim (cases_eq (s * w + k) (r * w + c)) [
      | inl q ↦
          let p = same_from_place s k r c w h inside q in
          let read : get_or (ys ++ y ∷ []) (s * w + k) e ≡ y = get_or_at ys y [] e (s * w + k) (f.size ∙ sym q) in
          subst (λ z. like (get_or xs (place s k) d) z) (sym read) (rw (p.0, p.1) (right d))
      | inr n ↦
          let read : get_or (ys ++ y ∷ []) (s * w + k) e ≡ get_or ys (s * w + k) e = get_or_append_left ys (y ∷ []) e (s * w + k) (omega (arith, f.size)) in
          subst (λ z. like (get_or xs (place s k) d) z) (sym read) (f.values s k d e h (omega arith))
    ];
  }

module _ {X : Type 0} (like : X → X → Type 0) (w : ℕ) (place : ℕ → ℕ → ℕ) (xs ys : List X) where
  -- a row more, of what stands to these values
  pub fill_row : (r : ℕ) (row : List X) (zs : List X) → length row ≡ w → ((c : ℕ) (d : X) → c < w → get_or row c d ≡ get_or xs (place r c) d) → AllZip like row zs
      → Filling like w place xs ys (r * w) → Filling like w place xs (ys ++ zs) ((r + 1) * w)
  fill_row r row zs size reads all f =
      let more : length zs ≡ w = sym (length_all_zip like row zs all) ∙ size in
      let next : (r + 1) * w ≡ r * w + w = omega arith in
      record {
        size = length-append ys zs ∙ omega (arith, f.size);
        values = λ s k d e h b. elim (cases_lt s r) [
          | inl o ↦
              let before = row_before s r w o in
              let read : get_or (ys ++ zs) (s * w + k) e ≡ get_or ys (s * w + k) e = get_or_append_left ys zs e (s * w + k) (omega (arith, f.size)) in
              subst (λ z. like (get_or xs (place s k) d) z) (sym read) (f.values s k d e h (omega arith))
          | inr o ↦ elim (cases_eq s r) [
            | inl q ↦
                let at : s * w + k - r * w ≡ k = omega (arith, ap (λ t. t * w) q) in
                let read : get_or (ys ++ zs) (s * w + k) e ≡ get_or zs k e = get_or-append_right ys zs (r * w) (s * w + k) e f.size (omega (arith, ap (λ t. t * w) q)) ∙ ap (λ i. get_or zs i e) at in
                subst (λ z. like (get_or xs (place s k) d) z) (sym read) (subst (λ x. like x (get_or zs k e)) (reads k d h ∙ ap (λ t. get_or xs (place t k) d) (sym q)) (AllZip-get_or like row zs k d e all (omega arith)))
            | inr q ↦ absurd (omega (arith, row_before r s w (omega arith)))
          ]
        ];
      }
