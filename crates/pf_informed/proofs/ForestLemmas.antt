-- Labels whose parents lead up to number 0, before and after one of them is lowered.
use Rattle.std.proofs.Common.{rules, ℕ, ◌+◌, ◌<◌, ◌≤◌, ◌≡◌, ◌≢◌, refl, sym, ◌∙◌, ap, subst, arith, true, List, [], ◌∷◌, length, get_or, inl, inr, ℤ, pos, negsuc, Option, Some, None, nat_eq}
use Rattle.std.specs.Prelude.{slice_get, slice_set, ◌≤ℤ◌, ◌<ℤ◌, ◌⊎◌}
use Rattle.std.proofs.lemmas.Int.{ints}
use Rattle.std.proofs.lemmas.List.Sums.{sum_by-set}
use Rattle.std.proofs.lemmas.Option.{slice_get-get_or}
use borrow.Author.Tests.{eqb-true}
use Rattle.pf_base.specs.Walks.{HasNode}
use Rattle.pf_core.specs.declared.labels.Label.{Label}
use Rattle.pf_core.specs.Labels.{Labels, HasLabel, Climbs}
use Rattle.pf_base.proofs.ListLemmas.{nat_dec, get_set}
use Rattle.pf_core.proofs.LabelLemmas.{label_is}
use Rattle.pf_informed.specs.Internal.Forest.{IsForest, nat_of, room_below, total_room}

pub nat_of_less : (x y : ℤ) → pos 0 ≤ℤ x → x <ℤ y → nat_of x < nat_of y
nat_of_less (pos n) (pos m) a b = omega (arith, ints, b)
nat_of_less (pos n) (negsuc m) a b = absurd (omega (arith, ints, b))
nat_of_less (negsuc n) (pos m) a b = absurd (omega (arith, ints, a))
nat_of_less (negsuc n) (negsuc m) a b = absurd (omega (arith, ints, a))

pub nat_of_le : (x y : ℤ) → pos 0 ≤ℤ x → x ≤ℤ y → nat_of x ≤ nat_of y
nat_of_le (pos n) (pos m) a b = omega (arith, ints, b)
nat_of_le (pos n) (negsuc m) a b = absurd (omega (arith, ints, b))
nat_of_le (negsuc n) (pos m) a b = absurd (omega (arith, ints, a))
nat_of_le (negsuc n) (negsuc m) a b = absurd (omega (arith, ints, a))

module _ {C : Type 0} (value : C → ℤ) (labels : Labels C) (f : IsForest value labels) where
  -- along the parents labels do not rise
  pub falls_along : (above : List ℕ) (k : ℕ) (l : Label C) → HasLabel labels k l → Climbs labels k above → (j : ℕ) → HasNode nat_eq above j → (m : Label C) × HasLabel labels j m × (value m.cost ≤ℤ value l.cost)
  falls_along [] k l h c j e = absurd e
  falls_along (p ∷ ps) k l h c j e =
      let same : c.0 ≡ l = label_is labels k c.0 l c.1 h in
      let deep : 0 < l.depth = subst (λ (m : Label C). 0 < m.depth) same c.3 in
      let before : l.parent ≡ p = subst (λ (m : Label C). m.parent ≡ p) same c.2 in
      let m = f.falls k l h deep in
      let at : HasLabel labels p m.0 = subst (λ (n : ℕ). HasLabel labels n m.0) before m.1 in
      elim e as (λ _. (m : Label C) × HasLabel labels j m × (value m.cost ≤ℤ value l.cost)) [
        | inl q ↦ (m.0, subst (λ (n : ℕ). HasLabel labels n m.0) (eqb-true p j q) at, m.2)
        | inr q ↦ let r = falls_along ps p m.0 at c.4 j q in (r.0, r.1, omega (arith, ints, r.2, m.2))
      ]

  at_zero : (l : Label C) → HasLabel labels 0 l → value l.cost ≡ pos 0
  at_zero l h = let z = f.first in ap (λ (m : Label C). value m.cost) (label_is labels 0 l z.0 h z.1) ∙ z.2

  -- no label costs less than 0
  climbs_from_zero : (above : List ℕ) (k : ℕ) (l : Label C) → HasLabel labels k l → Climbs labels k above → pos 0 ≤ℤ value l.cost
  climbs_from_zero [] k l h c =
      let same : c.0 ≡ l = label_is labels k c.0 l c.1 h in
      let flat : k ≡ 0 = f.flat k c.0 c.1 c.2 in
      let e = at_zero l (subst (λ (n : ℕ). HasLabel labels n l) flat h) in
      omega (arith, ints, e)
  climbs_from_zero (p ∷ ps) k l h c =
      let same : c.0 ≡ l = label_is labels k c.0 l c.1 h in
      let deep : 0 < l.depth = subst (λ (m : Label C). 0 < m.depth) same c.3 in
      let before : l.parent ≡ p = subst (λ (m : Label C). m.parent ≡ p) same c.2 in
      let m = f.falls k l h deep in
      omega (arith, ints, m.2, climbs_from_zero ps p m.0 (subst (λ (n : ℕ). HasLabel labels n m.0) before m.1) c.4)

  pub label_from_zero : (k : ℕ) (l : Label C) → HasLabel labels k l → pos 0 ≤ℤ value l.cost
  label_from_zero k l h = let up = f.climbs k l h in climbs_from_zero up.0 k l h up.1

  -- ---- a label behind a number whose label costs no more, in the place of none or of a dearer one
  module _ (next : ℕ) (new la : Label C) (inside : next < length labels) (less : (l : Label C) → HasLabel labels next l → value new.cost <ℤ value l.cost)
      (here : HasLabel labels new.parent la) (low : value la.cost ≤ℤ value new.cost) (deep : 0 < new.depth) where
    after : Labels C
    after = slice_set labels next (Some new)

    pub there : HasLabel (slice_set labels next (Some new)) next new
    there = elim (get_set labels next next (Some new) inside) as (λ _. HasLabel (slice_set labels next (Some new)) next new) [ inl r ↦ r.1 | inr r ↦ absurd (r.0 refl) ]

    pub other : (k : ℕ) (l : Label C) → k ≢ next → HasLabel labels k l → HasLabel (slice_set labels next (Some new)) k l
    other k l ne h = elim (get_set labels next k (Some new) inside) as (λ _. HasLabel (slice_set labels next (Some new)) k l) [ inl r ↦ absurd (ne r.0) | inr r ↦ r.1 ∙ h ]

    pub was : (k : ℕ) (m : Label C) → HasLabel (slice_set labels next (Some new)) k m → ((k ≡ next) × (m ≡ new)) ⊎ ((k ≢ next) × HasLabel labels k m)
    was k m h = elim (get_set labels next k (Some new) inside) as (λ _. ((k ≡ next) × (m ≡ new)) ⊎ ((k ≢ next) × HasLabel labels k m)) [
      | inl r ↦ inl (r.0, let e : Some (Some new) ≡ Some (Some m) = sym r.1 ∙ h in cc)
      | inr r ↦ inr (r.0, sym r.1 ∙ h)
    ]

    -- each label is there still, or a lower one
    pub lower_now : (k : ℕ) (l : Label C) → HasLabel labels k l → (m : Label C) × HasLabel (slice_set labels next (Some new)) k m × (value m.cost ≤ℤ value l.cost)
    lower_now k l h = elim (nat_dec k next) as (λ _. (m : Label C) × HasLabel (slice_set labels next (Some new)) k m × (value m.cost ≤ℤ value l.cost)) [
      | inl e ↦ (new, subst (λ (n : ℕ). HasLabel (slice_set labels next (Some new)) n new) (sym e) there, omega (arith, ints, less l (subst (λ (n : ℕ). HasLabel labels n l) e h)))
      | inr ne ↦ (l, other k l ne h, omega (arith, ints))
    ]

    pub parent_apart : new.parent ≢ next
    parent_apart e = let q = less la (subst (λ (n : ℕ). HasLabel labels n la) e here) in omega (arith, ints, q, low)

    -- the chain of the parent does not pass the number
    chain_apart : (above : List ℕ) → Climbs labels new.parent above → ¬ (HasNode nat_eq (new.parent ∷ above) next)
    chain_apart above c h = elim h as (λ _. ⊥) [
      | inl e ↦ parent_apart (eqb-true new.parent next e)
      | inr e ↦ let r = falls_along above new.parent la here c next e in let q = less r.0 r.1 in omega (arith, ints, q, low, r.2)
    ]

    stays : (above : List ℕ) (k : ℕ) → ¬ (HasNode nat_eq (k ∷ above) next) → Climbs labels k above → Climbs (slice_set labels next (Some new)) k above
    stays [] k n c = (c.0, other k c.0 (λ e. n (inl (subst (λ (j : ℕ). nat_eq k j ≡ true) e (same k)))) c.1, c.2)
      where
        same : (j : ℕ) → nat_eq j j ≡ true
        same j = search rules
    stays (p ∷ ps) k n c = (c.0, other k c.0 (λ e. n (inl (subst (λ (j : ℕ). nat_eq k j ≡ true) e (same k)))) c.1, c.2, c.3, stays ps p (λ h. n (inr h)) c.4)
      where
        same : (j : ℕ) → nat_eq j j ≡ true
        same j = search rules

    chain_next : (above : List ℕ) × Climbs (slice_set labels next (Some new)) next above
    chain_next = let up = f.climbs new.parent la here in (new.parent ∷ up.0, (new, there, refl, deep, stays up.0 new.parent (chain_apart up.0 up.1) up.1))

    -- a chain that passed the number goes on behind it as the new label says
    chain_now : (above : List ℕ) (k : ℕ) → Climbs labels k above → (above' : List ℕ) × Climbs (slice_set labels next (Some new)) k above'
    chain_now [] k c = elim (nat_dec k next) as (λ _. (above' : List ℕ) × Climbs (slice_set labels next (Some new)) k above') [
      | inl e ↦ subst (λ (n : ℕ). (above' : List ℕ) × Climbs (slice_set labels next (Some new)) n above') (sym e) chain_next
      | inr ne ↦ ([], (c.0, other k c.0 ne c.1, c.2))
    ]
    chain_now (p ∷ ps) k c = elim (nat_dec k next) as (λ _. (above' : List ℕ) × Climbs (slice_set labels next (Some new)) k above') [
      | inl e ↦ subst (λ (n : ℕ). (above' : List ℕ) × Climbs (slice_set labels next (Some new)) n above') (sym e) chain_next
      | inr ne ↦ let r = chain_now ps p c.4 in (p ∷ r.0, (c.0, other k c.0 ne c.1, c.2, c.3, r.1))
    ]

    pub forest_lowered : IsForest value (slice_set labels next (Some new))
    forest_lowered = record {
      first =
          let z = f.first in
          (z.0, other 0 z.0 (λ e. let q = less z.0 (subst (λ (n : ℕ). HasLabel labels n z.0) e z.1) in omega (arith, ints, q, z.2, low, label_from_zero new.parent la here)) z.1, z.2);
      flat = λ k l h d. elim (was k l h) as (λ _. k ≡ 0) [
        | inl r ↦ absurd (omega (arith, deep, sym (ap (λ (m : Label C). m.depth) r.1) ∙ d))
        | inr r ↦ f.flat k l r.1 d
      ];
      falls = λ k l h d. elim (was k l h) as (λ _. (m : Label C) × HasLabel (slice_set labels next (Some new)) l.parent m × (value m.cost ≤ℤ value l.cost)) [
        | inl r ↦ subst (λ (n : Label C). (m : Label C) × HasLabel (slice_set labels next (Some new)) n.parent m × (value m.cost ≤ℤ value n.cost)) (sym r.1) (la, other new.parent la parent_apart here, low)
        | inr r ↦ let m = f.falls k l r.1 d in let q = lower_now l.parent m.0 m.1 in (q.0, q.1, omega (arith, ints, q.2, m.2))
      ];
      climbs = λ k l h. elim (was k l h) as (λ _. (above : List ℕ) × Climbs (slice_set labels next (Some new)) k above) [
        | inl r ↦ subst (λ (n : ℕ). (above : List ℕ) × Climbs (slice_set labels next (Some new)) n above) (sym r.0) chain_next
        | inr r ↦ let up = f.climbs k l r.1 in chain_now up.0 k up.1
      ];
    }

    -- there is less room below the labels
    pub room_lowered : (top : ℤ) → value new.cost ≤ℤ top → total_room value (nat_of top) (slice_set labels next (Some new)) + 1 ≤ total_room value (nat_of top) labels
    room_lowered top fit =
        let room = room_below value (nat_of top) in
        let s = sum_by-set room labels next (Some new) None inside in
        let zero_up : pos 0 ≤ℤ value new.cost = omega (arith, ints, low, label_from_zero new.parent la here) in
        let q = smaller top fit (get_or labels next None) (slice_get-get_or labels next None inside) zero_up in
        omega (arith, s, q)
      where
        smaller : (top : ℤ) → value new.cost ≤ℤ top → (o : Option (Label C)) → slice_get labels next ≡ Some o → pos 0 ≤ℤ value new.cost → nat_of (value new.cost) < room_below value (nat_of top) o
        smaller top fit None h z = let q = nat_of_le (value new.cost) top z fit in omega (arith, q)
        smaller top fit (Some l) h z = nat_of_less (value new.cost) (value l.cost) z (less l h)
