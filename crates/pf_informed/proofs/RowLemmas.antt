-- Rows in which of parallel steps the cheapest alone is kept.
use Rattle.std.proofs.Common.{◌≡◌, ℕ, ℤ, Some, List, [], ◌∷◌, ◌++◌, ◌∙◌, length, sym, subst, ap, refl, inl, inr, arith}
use Rattle.std.specs.Prelude.{◌≤ℤ◌, Contains, slice_get, slice_set}
use Rattle.std.proofs.lemmas.Int.{ints}
use Rattle.std.proofs.lemmas.Option.{slice_get_within}
use Rattle.std.proofs.lemmas.List.Elements.{Contains-append_left, Contains-push}
use Rattle.pf_base.proofs.ListLemmas.{Contains-append_one, get_set, get-append, get_push}
use Rattle.pf_deepening.proofs.Writes.{of_some}
use Rattle.pf_informed.specs.Internal.Rows.{IsCheapestOf}

pub get_last : {A : Type 0} (xs : List A) (x : A) → slice_get (xs ++ x ∷ []) (length xs) ≡ Some x
get_last [] x = refl
get_last (y ∷ ys) x = get_last ys x

pub number_is : {C : Type 0} {s t : ℕ × C} → s ≡ t → s.0 ≡ t.0
number_is {C} e = ap (λ (s : ℕ × C). s.0) e

pub price_is : {C : Type 0} {s t : ℕ × C} → s ≡ t → s.1 ≡ t.1
price_is {C} e = ap (λ (s : ℕ × C). s.1) e

module _ {C : Type 0} (value : C → ℤ) (row : List (ℕ × C)) (places : List ℕ) (steps : List (ℕ × C)) (h : IsCheapestOf value row places steps) (n : ℕ) (p : C) where
  -- a dearer step
  pub cheapest_same : (i : ℕ) (d : C) → slice_get row i ≡ Some (n, d) → value d ≤ℤ value p → IsCheapestOf value row places (steps ++ (n, p) ∷ [])
  cheapest_same i d at low = record {
    placed = h.placed;
    from = λ k j c a. Contains-append_left steps ((n, p) ∷ []) (j, c) (h.from k j c a);
    least = λ k j c e a m. elim (Contains-append_one steps (n, p) (j, e) m) as (λ _. value c ≤ℤ value e) [
      | inl q ↦ h.least k j c e a q
      | inr q ↦
          let number = number_is q in
          let price = price_is q in
          let place = of_some k i (sym (h.placed k j c a) ∙ ap (slice_get places) (sym number) ∙ h.placed i n d at) in
          let cost = price_is (of_some (j, c) (n, d) (sym a ∙ ap (slice_get row) place ∙ at)) in
          omega (arith, ints, low, ap value cost, ap value price)
    ];
    all = λ j e m. elim (Contains-append_one steps (n, p) (j, e) m) as (λ _. (k : ℕ) × (c : C) × (slice_get row k ≡ Some (j, c))) [
      | inl q ↦ h.all j e q
      | inr q ↦ let number = number_is q in (i, d, subst (λ (k : ℕ). slice_get row i ≡ Some (k, d)) number at)
    ];
  }

  -- a cheaper step
  pub cheapest_lowered : (i : ℕ) (d : C) → slice_get row i ≡ Some (n, d) → value p ≤ℤ value d → IsCheapestOf value (slice_set row i (n, p)) places (steps ++ (n, p) ∷ [])
  cheapest_lowered i d at low =
      let within = slice_get_within row i (n, d) at in
      record {
        placed = λ k j c a. elim (get_set row i k (n, p) within) as (λ _. slice_get places j ≡ Some k) [
          | inl q ↦
              let number = number_is (of_some (n, p) (j, c) (sym q.1 ∙ a)) in
              subst (λ (m : ℕ). slice_get places m ≡ Some k) number (h.placed i n d at ∙ ap Some (sym q.0))
          | inr q ↦ h.placed k j c (sym q.1 ∙ a)
        ];
        from = λ k j c a. elim (get_set row i k (n, p) within) as (λ _. Contains (steps ++ (n, p) ∷ []) (j, c)) [
          | inl q ↦
              let one = of_some (n, p) (j, c) (sym q.1 ∙ a) in
              subst (λ (s : ℕ × C). Contains (steps ++ (n, p) ∷ []) s) one (Contains-push steps (n, p))
          | inr q ↦ Contains-append_left steps ((n, p) ∷ []) (j, c) (h.from k j c (sym q.1 ∙ a))
        ];
        least = λ k j c e a m. elim (get_set row i k (n, p) within) as (λ _. value c ≤ℤ value e) [
          | inl q ↦
              let same = of_some (n, p) (j, c) (sym q.1 ∙ a) in
              let number = number_is same in
              let price = price_is same in
              elim (Contains-append_one steps (n, p) (j, e) m) as (λ _. value c ≤ℤ value e) [
                | inl r ↦ let l = h.least i n d e at (subst (λ (z : ℕ). Contains steps (z, e)) (sym number) r) in omega (arith, ints, l, low, ap value price)
                | inr r ↦ let last = price_is r in omega (arith, ints, ap value price, ap value last)
              ]
          | inr q ↦ elim (Contains-append_one steps (n, p) (j, e) m) as (λ _. value c ≤ℤ value e) [
            | inl r ↦ h.least k j c e (sym q.1 ∙ a) r
            | inr r ↦
                let number = number_is r in
                absurd (q.0 (of_some k i (sym (h.placed k j c (sym q.1 ∙ a)) ∙ ap (slice_get places) (sym number) ∙ h.placed i n d at)))
          ]
        ];
        all = λ j e m. elim (Contains-append_one steps (n, p) (j, e) m) as (λ _. (k : ℕ) × (c : C) × (slice_get (slice_set row i (n, p)) k ≡ Some (j, c))) [
          | inl r ↦
              let s = h.all j e r in
              elim (get_set row i s.0 (n, p) within) as (λ _. (k : ℕ) × (c : C) × (slice_get (slice_set row i (n, p)) k ≡ Some (j, c))) [
                | inl q ↦
                    let number = number_is (of_some (n, d) (j, s.1) (sym at ∙ ap (slice_get row) (sym q.0) ∙ s.2)) in
                    (s.0, p, q.1 ∙ ap (λ (z : ℕ). Some (z, p)) number)
                | inr q ↦ (s.0, s.1, q.1 ∙ s.2)
              ]
          | inr r ↦
              let number = number_is r in
              elim (get_set row i i (n, p) within) as (λ _. (k : ℕ) × (c : C) × (slice_get (slice_set row i (n, p)) k ≡ Some (j, c))) [
                | inl q ↦ (i, p, q.1 ∙ ap (λ (z : ℕ). Some (z, p)) number)
                | inr q ↦ absurd (q.0 refl)
              ]
        ];
      }

  -- a step to another number
  pub cheapest_pushed : (places' : List ℕ) → ((i : ℕ) (c : C) → slice_get row i ≡ Some (n, c) → ¬ (slice_get places n ≡ Some i)) → slice_get places' n ≡ Some (length row)
      → ((k i : ℕ) → ¬ (k ≡ n) → slice_get places k ≡ Some i → slice_get places' k ≡ Some i) → IsCheapestOf value (row ++ (n, p) ∷ []) places' (steps ++ (n, p) ∷ [])
  cheapest_pushed places' fresh placed others = record {
    placed = λ k j c a. elim (get_push row (n, p) k (j, c) a) as (λ _. slice_get places' j ≡ Some k) [
      | inl q ↦ others j k (other k j c q) (h.placed k j c q)
      | inr q ↦
          let number = number_is q.1 in
          subst (λ (m : ℕ). slice_get places' m ≡ Some k) number (placed ∙ ap Some (sym q.0))
    ];
    from = λ k j c a. elim (get_push row (n, p) k (j, c) a) as (λ _. Contains (steps ++ (n, p) ∷ []) (j, c)) [
      | inl q ↦ Contains-append_left steps ((n, p) ∷ []) (j, c) (h.from k j c q)
      | inr q ↦ subst (λ (s : ℕ × C). Contains (steps ++ (n, p) ∷ []) s) q.1 (Contains-push steps (n, p))
    ];
    least = λ k j c e a m. elim (get_push row (n, p) k (j, c) a) as (λ _. value c ≤ℤ value e) [
      | inl q ↦ elim (Contains-append_one steps (n, p) (j, e) m) as (λ _. value c ≤ℤ value e) [
        | inl r ↦ h.least k j c e q r
        | inr r ↦ absurd (other k j c q (sym (number_is r)))
      ]
      | inr q ↦ elim (Contains-append_one steps (n, p) (j, e) m) as (λ _. value c ≤ℤ value e) [
        | inl r ↦
            let s = h.all j e r in
            absurd (other s.0 j s.1 s.2 (sym (number_is q.1)))
        | inr r ↦ let price = sym (price_is q.1) ∙ price_is r in omega (arith, ints, ap value price)
      ]
    ];
    all = λ j e m. elim (Contains-append_one steps (n, p) (j, e) m) as (λ _. (k : ℕ) × (c : C) × (slice_get (row ++ (n, p) ∷ []) k ≡ Some (j, c))) [
      | inl r ↦ let s = h.all j e r in (s.0, s.1, get-append row ((n, p) ∷ []) s.0 (j, s.1) s.2)
      | inr r ↦ let number = number_is r in (length row, p, get_last row (n, p) ∙ ap (λ (z : ℕ). Some (z, p)) number)
    ];
  }
    where
      other : (k j : ℕ) (c : C) → slice_get row k ≡ Some (j, c) → ¬ (j ≡ n)
      other k j c a e = fresh k c (a ∙ ap (λ (z : ℕ). Some (z, c)) e) (ap (slice_get places) (sym e) ∙ h.placed k j c a)
