-- The numbers that lead up from a label by its parents: how many they are, and that they end.
use Rattle.std.proofs.Common.{ℕ, zero, suc, ◌<◌, ◌≤◌, ◌≡◌, ◌≢◌, refl, sym, ◌∙◌, ap, subst, arith, List, [], ◌∷◌, length, inl, inr, Option, Some, None, nat_eq, eq-eqb}
use Rattle.std.specs.Prelude.{◌⊎◌, slice_get}
use borrow.Author.Tests.{eqb-true}
use Rattle.pf_base.specs.Walks.{HasNode, NoRepeats}
use Rattle.pf_core.specs.declared.labels.Label.{Label}
use Rattle.pf_core.specs.Labels.{Labels, HasLabel, Climbs}
use Rattle.pf_base.proofs.ListLemmas.{nat_dec}
use Rattle.pf_core.proofs.LabelLemmas.{HasLabel-inside, label_is}

-- one more, where the depth is not 0
abbrev pub one_above : ℕ → ℕ → ℕ
one_above zero n = 0
one_above (suc d) n = suc n

module _ {C : Type 0} where
  abbrev pub steps_from : (ℕ → ℕ) → Option (Option (Label C)) → ℕ
  steps_from up None = 0
  steps_from up (Some None) = 0
  steps_from up (Some (Some l)) = one_above l.depth (up l.parent)

  -- how many parents lead up from k, where they are `most` at most
  abbrev pub steps_up : Labels C → ℕ → ℕ → ℕ
  steps_up labels zero k = 0
  steps_up labels (suc most) k = steps_from (steps_up labels most) (slice_get labels k)

-- ---- distinct numbers below n are n at most

-- the numbers without the first n
without : ℕ → List ℕ → List ℕ
without n [] = []
without n (x ∷ xs) = elim (nat_dec x n) as (λ _. List ℕ) [ inl e ↦ xs | inr e ↦ x ∷ without n xs ]

length-without : (n : ℕ) (xs : List ℕ) → length xs ≤ suc (length (without n xs))
unfolding without
length-without n [] = omega arith
length-without n (x ∷ xs) = by (length-without n xs) (nat_dec x n)
  where
    by : length xs ≤ suc (length (without n xs)) → (d : (x ≡ n) ⊎ (x ≢ n)) → length (x ∷ xs) ≤ suc (length (elim d as (λ _. List ℕ) [ inl e ↦ xs | inr e ↦ x ∷ without n xs ]))
    by q (inl e) = omega arith
    by q (inr e) = omega (arith, q)

in_without : (n : ℕ) (xs : List ℕ) (j : ℕ) → HasNode nat_eq (without n xs) j → HasNode nat_eq xs j
unfolding without
in_without n [] j h = h
in_without n (x ∷ xs) j h = by (in_without n xs j) (nat_dec x n) h
  where
    by : (HasNode nat_eq (without n xs) j → HasNode nat_eq xs j) → (d : (x ≡ n) ⊎ (x ≢ n)) → HasNode nat_eq (elim d as (λ _. List ℕ) [ inl e ↦ xs | inr e ↦ x ∷ without n xs ]) j → HasNode nat_eq (x ∷ xs) j
    by rest (inl e) h = inr h
    by rest (inr e) (inl q) = inl q
    by rest (inr e) (inr q) = inr (rest q)

no_repeats_without : (n : ℕ) (xs : List ℕ) → NoRepeats nat_eq xs → NoRepeats nat_eq (without n xs)
unfolding without
no_repeats_without n [] d = tt
no_repeats_without n (x ∷ xs) d = by (no_repeats_without n xs d.1) (nat_dec x n)
  where
    by : NoRepeats nat_eq (without n xs) → (e : (x ≡ n) ⊎ (x ≢ n)) → NoRepeats nat_eq (elim e as (λ _. List ℕ) [ inl e ↦ xs | inr e ↦ x ∷ without n xs ])
    by rest (inl e) = d.1
    by rest (inr e) = ((λ h. d.0 (in_without n xs x h)), rest)

not_in_without : (n : ℕ) (xs : List ℕ) → NoRepeats nat_eq xs → ¬ (HasNode nat_eq (without n xs) n)
unfolding without
not_in_without n [] d h = h
not_in_without n (x ∷ xs) d h = by (not_in_without n xs d.1) (nat_dec x n) h
  where
    by : ¬ (HasNode nat_eq (without n xs) n) → (e : (x ≡ n) ⊎ (x ≢ n)) → HasNode nat_eq (elim e as (λ _. List ℕ) [ inl e ↦ xs | inr e ↦ x ∷ without n xs ]) n → ⊥
    by rest (inl e) h = d.0 (subst (λ (m : ℕ). HasNode nat_eq xs m) (sym e) h)
    by rest (inr e) (inl q) = e (eqb-true x n q)
    by rest (inr e) (inr q) = rest q

pub few_below : (n : ℕ) (xs : List ℕ) → NoRepeats nat_eq xs → ((j : ℕ) → HasNode nat_eq xs j → j < n) → length xs ≤ n
few_below zero [] d b = omega arith
few_below zero (x ∷ xs) d b = absurd (omega (arith, b x (inl (eq-eqb x x refl))))
few_below (suc n) xs d b =
    let q = few_below n (without n xs) (no_repeats_without n xs d) (λ j h.
    let l = b j (in_without n xs j h) in
    elim (nat_dec j n) as (λ _. j < n) [
      | inl e ↦ absurd (not_in_without n xs d (subst (λ (m : ℕ). HasNode nat_eq (without n xs) m) e h))
      | inr e ↦ omega (arith, l, e)
    ]) in
    omega (arith, q, length-without n xs)

-- ---- the chain of a number
module _ {C : Type 0} (labels : Labels C) where
  -- a number has one chain
  climbs_same : (a b : List ℕ) (k : ℕ) → Climbs labels k a → Climbs labels k b → length a ≡ length b
  climbs_same [] [] k c d = refl
  climbs_same [] (q ∷ qs) k c d = absurd (omega (arith, c.2, d.3, ap (λ (m : Label C). m.depth) (label_is labels k c.0 d.0 c.1 d.1)))
  climbs_same (p ∷ ps) [] k c d = absurd (omega (arith, d.2, c.3, ap (λ (m : Label C). m.depth) (label_is labels k c.0 d.0 c.1 d.1)))
  climbs_same (p ∷ ps) (q ∷ qs) k c d =
      let same : p ≡ q = sym c.2 ∙ ap (λ (m : Label C). m.parent) (label_is labels k c.0 d.0 c.1 d.1) ∙ d.2 in
      let r = climbs_same ps qs q (subst (λ (n : ℕ). Climbs labels n ps) same c.4) d.4 in
      omega (arith, r)

  -- each number of a chain has a shorter one
  shorter : (above : List ℕ) (k : ℕ) → Climbs labels k above → (j : ℕ) → HasNode nat_eq above j → (rest : List ℕ) × Climbs labels j rest × (length rest < length above)
  shorter [] k c j h = absurd h
  shorter (p ∷ ps) k c j (inl e) = (ps, subst (λ (n : ℕ). Climbs labels n ps) (eqb-true p j e) c.4, omega arith)
  shorter (p ∷ ps) k c j (inr h) = let r = shorter ps p c.4 j h in (r.0, r.1, omega (arith, r.2))

  pub chain_distinct : (above : List ℕ) (k : ℕ) → Climbs labels k above → NoRepeats nat_eq (k ∷ above)
  chain_distinct [] k c = ((λ h. h), tt)
  chain_distinct (p ∷ ps) k c = (
    (λ h. let r = shorter (p ∷ ps) k c k h in omega (arith, r.2, climbs_same r.0 (p ∷ ps) k r.1 c)),
    chain_distinct ps p c.4,
  )

  chain_inside : (above : List ℕ) (k : ℕ) → Climbs labels k above → (j : ℕ) → HasNode nat_eq (k ∷ above) j → j < length labels
  chain_inside [] k c j (inl e) = subst (λ (n : ℕ). n < length labels) (eqb-true k j e) (HasLabel-inside labels k c.0 c.1)
  chain_inside [] k c j (inr h) = absurd h
  chain_inside (p ∷ ps) k c j (inl e) = subst (λ (n : ℕ). n < length labels) (eqb-true k j e) (HasLabel-inside labels k c.0 c.1)
  chain_inside (p ∷ ps) k c j (inr h) = chain_inside ps p c.4 j h

  chain_short : (above : List ℕ) (k : ℕ) → Climbs labels k above → length above < length labels
  chain_short above k c = let q = few_below (length labels) (k ∷ above) (chain_distinct above k c) (chain_inside above k c) in omega (arith, q)

  steps_are : (above : List ℕ) (k most : ℕ) → Climbs labels k above → length above ≤ most → steps_up labels most k ≡ length above
  steps_are [] k zero c h = refl
  steps_are (p ∷ ps) k zero c h = absurd (omega (arith, h))
  steps_are [] k (suc most) c h = ap (steps_from (steps_up labels most)) c.1 ∙ ap (λ (d : ℕ). one_above d (steps_up labels most c.0.parent)) c.2
  steps_are (p ∷ ps) k (suc most) c h =
      ap (steps_from (steps_up labels most)) c.1 ∙ deeper c.0.depth (steps_up labels most c.0.parent) c.3
      ∙ ap (λ (n : ℕ). suc (steps_up labels most n)) c.2 ∙ ap suc (steps_are ps p most c.4 (omega (arith, h)))
    where
      deeper : (d n : ℕ) → 0 < d → one_above d n ≡ suc n
      deeper zero n l = absurd (omega (arith, l))
      deeper (suc d) n l = refl

  -- a number of a chain has a label
  pub climbs_labelled : (above : List ℕ) (k : ℕ) → Climbs labels k above → (l : Label C) × HasLabel labels k l
  climbs_labelled [] k c = (c.0, c.1)
  climbs_labelled (p ∷ ps) k c = (c.0, c.1)

  -- the parent of a number of a chain has the rest of it
  pub climbs_on : (above : List ℕ) (k : ℕ) → Climbs labels k above → (l : Label C) → HasLabel labels k l → (p : ℕ) → l.parent ≡ p → 0 < l.depth → (rest : List ℕ) × Climbs labels p rest × (length rest < length above)
  climbs_on [] k c l h p e d = absurd (omega (arith, d, c.2, ap (λ (m : Label C). m.depth) (label_is labels k c.0 l c.1 h)))
  climbs_on (q ∷ qs) k c l h p e d = (qs, subst (λ (n : ℕ). Climbs labels n qs) (sym c.2 ∙ ap (λ (m : Label C). m.parent) (label_is labels k c.0 l c.1 h) ∙ e) c.4, omega arith)

  -- fewer parents lead up from the parent
  pub climbs_fewer : (above : List ℕ) (k : ℕ) → Climbs labels k above → (l : Label C) → HasLabel labels k l → (p : ℕ) → l.parent ≡ p → 0 < l.depth → steps_up labels (length labels) p < steps_up labels (length labels) k
  climbs_fewer above k c l h p e d =
      let on = climbs_on above k c l h p e d in
      let now = steps_are above k (length labels) c (omega (arith, chain_short above k c)) in
      let next = steps_are on.0 p (length labels) on.1 (omega (arith, chain_short on.0 p on.1)) in
      omega (arith, now, next, on.2)
