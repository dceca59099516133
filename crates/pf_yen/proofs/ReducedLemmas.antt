-- Rows of steps at reduced costs, as they are made.
use Rattle.std.proofs.Common.{◌≡◌, ℕ, ◌<◌, ◌+◌, ◌∙◌, sym, ap, subst, arith, inl, inr, true, List, [], ◌∷◌, ◌++◌, length, length-append, take, get_or, ℤ, pos, Option, Some}
use Rattle.std.specs.Prelude.{◌+ℤ◌, Contains, slice_get, slice_index_or}
use Rattle.std.proofs.Math.Seq.{get_or-append_seam}
use Rattle.std.proofs.lemmas.List.{get_or_append_left}
use Rattle.std.proofs.lemmas.List.Elements.{Contains-append_left, Contains-append_right}
use Rattle.pf_base.proofs.ListLemmas.{nat_dec, at_place, Contains-head, Contains-take, Contains-take_here, Contains-take_more, Contains-append_one}
use Rattle.pf_yen.specs.Internal.Adjacency.{AdjacencyLists, row_of, is_goal}
use Rattle.pf_yen.specs.Internal.Reduced.{IsReducedRow}
use Rattle.pf_yen.proofs.FilteredLemmas.{in_none}
use Rattle.pf_yen.proofs.RemainingLemmas.{one_cost}

module _ {C : Type 0} (value : C → ℤ) (costs : List (Option C)) where
  pub no_steps : (here : Option C) → IsReducedRow value costs [] here []
  no_steps here = record { sound = λ b d h. absurd (in_none (b, d) h); whole = λ b c y h j. absurd (in_none (b, c) h) }

  module _ (row : List (ℕ × C)) (i : ℕ) (item : ℕ × C) (inside : i < length row) (is : item ≡ get_or row i item) (here : Option C) (held : List (ℕ × C)) (so_far : IsReducedRow value costs (take i row) here held) where
    pub left_out : ((y : C) → ¬ (slice_get costs item.0 ≡ Some (Some y))) → IsReducedRow value costs (take (i + 1) row) here held
    left_out none = record {
      sound = λ b d h. let s = so_far.sound b d h in (s.0, s.1, s.2, Contains-take row i (b, s.0) s.3, s.4, s.5, s.6);
      whole = λ b c y h j. elim (Contains-take_more row i item (b, c) h) as (λ _. (d : C) × (x : C) × Contains held (b, d) × (here ≡ Some x) × (value d +ℤ value x ≡ value c +ℤ value y)) [
        | inl old ↦ so_far.whole b c y old j
        | inr e ↦ let f : item ≡ (b, c) = is ∙ e in absurd (none y (subst (λ (p : ℕ × C). slice_get costs p.0 ≡ Some (Some y)) (sym f) j))
      ];
    }

    module _ (rest cost x : C) (known : slice_get costs item.0 ≡ Some (Some rest)) (at : here ≡ Some x) (sum : value cost +ℤ value x ≡ value item.1 +ℤ value rest) where
      new_sound : (b : ℕ) (d : C) → ◌≡◌ {A = ℕ × C} (item.0, cost) (b, d) → (c : C) × (x : C) × (y : C) × Contains (take (i + 1) row) (b, c) × (here ≡ Some x) × (slice_get costs b ≡ Some (Some y)) × (value d +ℤ value x ≡ value c +ℤ value y)
      new_sound b d e =
          let number : item.0 ≡ b = ap (λ (p : ℕ × C). p.0) e in
          let price : cost ≡ d = ap (λ (p : ℕ × C). p.1) e in (
            item.1,
            x,
            rest,
            subst (λ (n : ℕ). Contains (take (i + 1) row) (n, item.1)) number (Contains-take_here row i item inside is),
            at,
            subst (λ (n : ℕ). slice_get costs n ≡ Some (Some rest)) number known,
            subst (λ (z : C). value z +ℤ value x ≡ value item.1 +ℤ value rest) price sum,
          )

      new_whole : (b : ℕ) (c y : C) → item ≡ (b, c) → slice_get costs b ≡ Some (Some y) → (d : C) × (x : C) × Contains (held ++ (item.0, cost) ∷ []) (b, d) × (here ≡ Some x) × (value d +ℤ value x ≡ value c +ℤ value y)
      new_whole b c y e j =
          let number : item.0 ≡ b = ap (λ (p : ℕ × C). p.0) e in
          let price : item.1 ≡ c = ap (λ (p : ℕ × C). p.1) e in
          let same : rest ≡ y = one_cost (slice_get costs b) rest y (subst (λ (n : ℕ). slice_get costs n ≡ Some (Some rest)) number known) j in (
            cost,
            x,
            subst (λ (n : ℕ). Contains (held ++ (item.0, cost) ∷ []) (n, cost)) number (Contains-append_right held ((item.0, cost) ∷ []) (item.0, cost) (Contains-head [] (item.0, cost))),
            at,
            subst (λ (z : C). value cost +ℤ value x ≡ value z +ℤ value y) price (subst (λ (z : C). value cost +ℤ value x ≡ value item.1 +ℤ value z) same sum),
          )

      pub put_in : IsReducedRow value costs (take (i + 1) row) here (held ++ (item.0, cost) ∷ [])
      put_in = record {
        sound = λ b d h. elim (Contains-append_one held (item.0, cost) (b, d) h) as (λ _. (c : C) × (x : C) × (y : C) × Contains (take (i + 1) row) (b, c) × (here ≡ Some x) × (slice_get costs b ≡ Some (Some y)) × (value d +ℤ value x ≡ value c +ℤ value y)) [
          | inl old ↦ let s = so_far.sound b d old in (s.0, s.1, s.2, Contains-take row i (b, s.0) s.3, s.4, s.5, s.6)
          | inr e ↦ new_sound b d e
        ];
        whole = λ b c y h j. elim (Contains-take_more row i item (b, c) h) as (λ _. (d : C) × (x : C) × Contains (held ++ (item.0, cost) ∷ []) (b, d) × (here ≡ Some x) × (value d +ℤ value x ≡ value c +ℤ value y)) [
          | inl old ↦ let s = so_far.whole b c y old j in (s.0, s.1, Contains-append_left held ((item.0, cost) ∷ []) (b, s.0) s.2, s.3, s.4)
          | inr e ↦ new_whole b c y (is ∙ e) j
        ];
      }

  -- the rows of the first numbers
  pub record AreReducedUpTo (k : AdjacencyLists C) (n : ℕ) (rows : List (List (ℕ × C))) : Type 0 where
    pub wide : length rows ≡ n
    pub each : (a : ℕ) (here : Option C) → a < n → slice_get costs a ≡ Some here → IsReducedRow value costs (row_of k a) here (slice_index_or rows a [])
    pub free : (a : ℕ) → a < n → is_goal k a ≡ true → (y : C) × (slice_get costs a ≡ Some (Some y)) × (value y ≡ pos 0)

  module _ (k : AdjacencyLists C) (n : ℕ) (rows : List (List (ℕ × C))) (so_far : AreReducedUpTo k n rows) (inside : n < length costs) (here : Option C) (is : here ≡ get_or costs n here) (row : List (ℕ × C)) where
    there : slice_get costs n ≡ Some here
    there = at_place costs n here here inside (sym is)

    pub row_more : IsReducedRow value costs (row_of k n) here row → (is_goal k n ≡ true → (y : C) × (slice_get costs n ≡ Some (Some y)) × (value y ≡ pos 0)) → AreReducedUpTo k (n + 1) (rows ++ row ∷ [])
    row_more reduced free = record {
      wide = length-append rows (row ∷ []) ∙ ap (λ (m : ℕ). m + 1) so_far.wide;
      each = λ a h l e. elim (nat_dec a n) as (λ _. IsReducedRow value costs (row_of k a) h (slice_index_or (rows ++ row ∷ []) a [])) [
        | inl s ↦
            let o : Some here ≡ Some h = sym there ∙ subst (λ (m : ℕ). slice_get costs m ≡ Some h) s e in
            let same : here ≡ h = cc in
            let last : slice_index_or (rows ++ row ∷ []) a [] ≡ row = ap (λ (m : ℕ). slice_index_or (rows ++ row ∷ []) m []) (s ∙ sym so_far.wide) ∙ get_or-append_seam rows row [] [] in
            rw last (subst (λ (m : ℕ). IsReducedRow value costs (row_of k m) h row) (sym s) (subst (λ (x : Option C). IsReducedRow value costs (row_of k n) x row) same reduced))
        | inr d ↦
            let low : a < n = omega (arith, l, d) in
            rw (get_or_append_left rows (row ∷ []) [] a (subst (λ (m : ℕ). a < m) (sym so_far.wide) low)) (so_far.each a h low e)
      ];
      free = λ a l t. elim (nat_dec a n) as (λ _. (y : C) × (slice_get costs a ≡ Some (Some y)) × (value y ≡ pos 0)) [
        | inl s ↦
            let z = free (subst (λ (m : ℕ). is_goal k m ≡ true) s t) in
            (z.0, ap (λ (m : ℕ). slice_get costs m) s ∙ z.1, z.2)
        | inr d ↦ so_far.free a (omega (arith, l, d)) t
      ];
    }
