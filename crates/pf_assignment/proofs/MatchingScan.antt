-- How far a scan of the columns has come.
use Rattle.std.proofs.Common.{ℕ, ◌+◌, ◌<◌, ◌≤◌, ◌≡◌, ◌≢◌, refl, sym, ◌∙◌, ap, subst, arith, Bool, true, false, inl, inr, ℤ, Option, Some, None, true≢false}
use Rattle.std.specs.Prelude.{◌⊎◌, ◌≤ℤ◌}
use Rattle.std.proofs.lemmas.Int.{ints}
use Rattle.pf_assignment.specs.Internal.AssignmentSteps.{IsNearest, IsRelaxed}
use Rattle.pf_assignment.proofs.MatchingNumbers.{below_or_last}

-- the columns below i are up to date, the others as they were, and the nearest of those is known
pub record IsScannedTo (i : ℕ) (through : ℕ → ℤ) (by : ℕ) (visited : ℕ → Bool) (d : ℕ → ℤ) (place : ℕ → ℕ) (d' : ℕ → ℤ) (place' : ℕ → ℕ) (nearest : Option ℕ) : Type 0 where
  pub relaxed : (j : ℕ) → j < i → IsRelaxed (visited j) (through j) by (d j) (place j) (d' j) (place' j)
  pub distances : (j : ℕ) → i ≤ j → d' j ≡ d j
  pub places : (j : ℕ) → i ≤ j → place' j ≡ place j
  pub none : nearest ≡ None → (j : ℕ) → j < i → visited j ≡ true
  pub some : (c : ℕ) → nearest ≡ Some c → (c < i) × (visited c ≡ false) × ((j : ℕ) → j < i → visited j ≡ false → d' c ≤ℤ d' j)

module _ (through : ℕ → ℤ) (by : ℕ) (visited : ℕ → Bool) (d : ℕ → ℤ) (place : ℕ → ℕ) where
  module _ (i : ℕ) (d' : ℕ → ℤ) (place' : ℕ → ℕ) (nearest : Option ℕ) (so : IsScannedTo i through by visited d place d' place' nearest) where
    pub scan_skips : visited i ≡ true → IsScannedTo (i + 1) through by visited d place d' place' nearest
    scan_skips t = record {
      relaxed = λ j h. elim (below_or_last j i h) as (λ _. IsRelaxed (visited j) (through j) by (d j) (place j) (d' j) (place' j)) [
        | inl l ↦ so.relaxed j l
        | inr e ↦ subst (λ k. IsRelaxed (visited k) (through k) by (d k) (place k) (d' k) (place' k)) (sym e) (let l : i ≤ i = omega arith in inl (so.distances i l, so.places i l, inl t))
      ];
      distances = λ j h. let l : i ≤ j = omega (arith, h) in so.distances j l;
      places = λ j h. let l : i ≤ j = omega (arith, h) in so.places j l;
      none = λ e j h. elim (below_or_last j i h) as (λ _. visited j ≡ true) [ inl l ↦ so.none e j l | inr f ↦ ap visited f ∙ t ];
      some = λ c e.
          let s = so.some c e in
          let l : c < i = s.0 in (
            omega arith,
            s.1,
            λ j h f. elim (below_or_last j i h) as (λ _. d' c ≤ℤ d' j) [ inl k ↦ s.2 j k f | inr g ↦ absurd (true≢false (sym (ap visited g ∙ t) ∙ f)) ],
          );
    }

    module _ (f : visited i ≡ false) (d'' : ℕ → ℤ) (place'' : ℕ → ℕ) (here : IsRelaxed false (through i) by (d' i) (place' i) (d'' i) (place'' i)) (distances : (j : ℕ) → j ≢ i → d'' j ≡ d' j) (places : (j : ℕ) → j ≢ i → place'' j ≡ place' j) (r : ℕ) (one : (r ≡ i) ⊎ (nearest ≡ Some r)) (below : d'' r ≤ℤ d'' i) (other : (n : ℕ) → nearest ≡ Some n → d'' r ≤ℤ d'' n) where
      same : i ≤ i
      same = omega arith

      far : (j : ℕ) → j < i → j ≢ i
      far j h e = omega (arith, h, e)

      least : (o : Option ℕ) → nearest ≡ o → (j : ℕ) → j < i → visited j ≡ false → d'' r ≤ℤ d'' j
      least None e j h g = absurd (true≢false (sym (so.none e j h) ∙ g))
      least (Some n) e j h g =
          let s = so.some n e in
          let l = s.2 j h g in
          let m = other n e in
          let p = distances n (far n s.0) in
          let q = distances j (far j h) in
          omega (arith, ints, l, m, p, q)

      pub scan_relaxes : IsScannedTo (i + 1) through by visited d place d'' place'' (Some r)
      scan_relaxes = record {
        relaxed = λ j h. elim (below_or_last j i h) as (λ _. IsRelaxed (visited j) (through j) by (d j) (place j) (d'' j) (place'' j)) [
          | inl l ↦ subst (λ (z : ℤ). IsRelaxed (visited j) (through j) by (d j) (place j) z (place'' j)) (sym (distances j (far j l)))
              (subst (λ (z : ℕ). IsRelaxed (visited j) (through j) by (d j) (place j) (d' j) z) (sym (places j (far j l))) (so.relaxed j l))
          | inr e ↦ subst (λ k. IsRelaxed (visited k) (through k) by (d k) (place k) (d'' k) (place'' k)) (sym e)
              (subst (λ (b : Bool). IsRelaxed b (through i) by (d i) (place i) (d'' i) (place'' i)) (sym f)
              (subst (λ (z : ℤ). IsRelaxed false (through i) by z (place i) (d'' i) (place'' i)) (so.distances i same)
              (subst (λ (z : ℕ). IsRelaxed false (through i) by (d' i) z (d'' i) (place'' i)) (so.places i same) here)))
        ];
        distances = λ j h. distances j (λ e. omega (arith, h, e)) ∙ (let l : i ≤ j = omega (arith, h) in so.distances j l);
        places = λ j h. places j (λ e. omega (arith, h, e)) ∙ (let l : i ≤ j = omega (arith, h) in so.places j l);
        none = λ e. absurd (let g : Some r ≡ None = e in cc);
        some = λ c e.
            let s : r ≡ c = (let g : Some r ≡ Some c = e in cc) in
            subst (λ k. (k < i + 1) × (visited k ≡ false) × ((j : ℕ) → j < i + 1 → visited j ≡ false → d'' k ≤ℤ d'' j)) s (
              elim one as (λ _. r < i + 1) [ inl g ↦ omega (arith, g) | inr g ↦ (let l = (so.some r g).0 in omega (arith, l)) ],
              elim one as (λ _. visited r ≡ false) [ inl g ↦ ap visited g ∙ f | inr g ↦ (so.some r g).1 ],
              λ j h g. elim (below_or_last j i h) as (λ _. d'' r ≤ℤ d'' j) [ inl k ↦ least nearest refl j k g | inr k ↦ subst (λ m. d'' r ≤ℤ d'' m) (sym k) below ],
            );
      }

pub scan_nearest : (through : ℕ → ℤ) (by : ℕ) (visited : ℕ → Bool) (d : ℕ → ℤ) (place : ℕ → ℕ) (i : ℕ) (d' : ℕ → ℤ) (place' : ℕ → ℕ) (nearest : Option ℕ) (so : IsScannedTo i through by visited d place d' place' nearest) → (c : ℕ) → nearest ≡ Some c → IsNearest i visited d' c
scan_nearest through by visited d place i d' place' nearest so c e = let s = so.some c e in record { inside = s.0; outside = s.1; least = s.2 }
