-- Lemmas on what waits.
use Rattle.std.proofs.Common.{ℕ, ◌<◌, ◌≤◌, ◌≡◌, refl, sym, ◌∙◌, ap, subst, arith, true, false, [], ◌∷◌, length, inl, inr, ℤ, Option, Some, None, true≢false}
use Rattle.std.specs.Prelude.{slice_set, Contains, IfSome, IsPermutation, ◌≤ℤ◌, ◌<ℤ◌}
use Rattle.std.proofs.lemmas.Int.{ints}
use Rattle.std.proofs.lemmas.List.Sorted.{Contains-permutation, IsPermutation-sym}
use Rattle.pf_core.specs.declared.labels.Label.{Label}
use Rattle.pf_core.specs.Labels.{Labels, HasLabel, by_cost, AllSettled, Settles, Widened}
use Rattle.pf_queue.specs.Entries.{Entries}
use Rattle.pf_core.specs.Queue.{IsQueue, IsFront}
use Rattle.pf_core.specs.Search.{IsLeast}
use Rattle.pf_base.proofs.ListLemmas.{bool_dec, nat_dec, Contains-head, Contains-tail, Contains-cases, get_set}
use Rattle.pf_core.proofs.LabelLemmas.{HasLabel-inside, label_is, Lowered-set}

abbrev entry : {C : Type 0} → C → ℕ → C × ℕ
entry c k = (c, k)

-- what comes first is the answer again
pub again_is : {C : Type 0} (X : Type 0) (old front : Option (C × ℕ)) (r : Option (C × ℕ)) (k : ℕ) → front ≡ old → IsFront k old → IfSome front (λ e. (r ≡ Some e) × X) → (c : C) × (r ≡ Some (c, k))
again_is X old front r k same f h = (f.0, (subst (λ o. IfSome o (λ e. (r ≡ Some e) × X)) (same ∙ f.1) h).0)

pub same_number : {C : Type 0} (e : C × ℕ) (c : C) (k : ℕ) → Some e ≡ Some (c, k) → e.1 ≡ k
same_number e c k h = let p : e ≡ (c, k) = cc in ap (λ (x : _ × ℕ). x.1) p

pub none_some : {A : Type 0} (x : A) → None ≡ Some x → ⊥
none_some x h = cc

module _ {C : Type 0} (value : C → ℤ) where
  -- ---- a label is lowered, and its entry is put in
  module _ (labels : Labels C) (next : ℕ) (new : Label C) (opened : new.settled ≡ false) (inside : next < length labels)
      (less : (l : Label C) → HasLabel labels next l → (l.settled ≡ false) × (value new.cost <ℤ value l.cost)) where
    there : HasLabel (slice_set labels next (Some new)) next new
    there = elim (get_set labels next next (Some new) inside) as (λ _. HasLabel (slice_set labels next (Some new)) next new) [ inl r ↦ r.1 | inr r ↦ absurd (r.0 refl) ]

    same_entry : (k : ℕ) (l : Label C) → k ≡ next → l ≡ new → entry new.cost next ≡ entry l.cost k
    same_entry k l p q = sym (ap (λ (i : ℕ). entry l.cost i) p ∙ ap (λ (m : Label C). entry m.cost next) q)

    pub IsQueue-lower : (entries entries' : Entries C) → IsQueue value labels entries → IsPermutation ((new.cost, next) ∷ entries) entries' → IsQueue value (slice_set labels next (Some new)) entries'
    IsQueue-lower entries entries' q p =
        let low = Lowered-set (by_cost value) labels next new opened inside less in
        record {
          labelled = λ e h. elim (Contains-cases entries (entry new.cost next) e (Contains-permutation entries' (entry new.cost next ∷ entries) e (IsPermutation-sym _ _ p) h)) as (λ _. (l : Label C) × HasLabel (slice_set labels next (Some new)) e.1 l × (value l.cost ≤ℤ value e.0)) [
            | inl s ↦ subst (λ (f : C × ℕ). (l : Label C) × HasLabel (slice_set labels next (Some new)) f.1 l × (value l.cost ≤ℤ value f.0)) s (new, there, omega (arith, ints))
            | inr i ↦
                let r = q.labelled e i in
                elim (low.others e.1 r.0 r.1) as (λ _. (l : Label C) × HasLabel (slice_set labels next (Some new)) e.1 l × (value l.cost ≤ℤ value e.0)) [
                  | inl o ↦ (r.0, o, r.2)
                  | inr o ↦ (new, subst (λ i. HasLabel (slice_set labels next (Some new)) i new) (sym o.0) there, omega (arith, ints, o.2, r.2))
                ]
          ];
          queued = λ k l h u. Contains-permutation (entry new.cost next ∷ entries) entries' (entry l.cost k) p (elim (low.from k l h) as (λ _. Contains (entry new.cost next ∷ entries) (entry l.cost k)) [
            | inl o ↦ Contains-tail entries (entry new.cost next) (entry l.cost k) (q.queued k l o u)
            | inr o ↦ subst (λ (f : C × ℕ). Contains (entry new.cost next ∷ entries) f) (same_entry k l o.0 o.1) (Contains-head entries (entry new.cost next))
          ]);
        }

  -- ---- the entries are brought into another order
  pub IsQueue-moved : (labels : Labels C) (entries entries' : Entries C) → IsPermutation entries entries' → IsQueue value labels entries → IsQueue value labels entries'
  IsQueue-moved labels entries entries' p q = record {
    labelled = λ e h. q.labelled e (Contains-permutation entries' entries e (IsPermutation-sym _ _ p) h);
    queued = λ k l h u. Contains-permutation entries entries' (entry l.cost k) p (q.queued k l h u);
  }

  -- ---- an entry is taken out
  module _ (labels : Labels C) (entries entries' : Entries C) (e : C × ℕ) (q : IsQueue value labels entries) (p : IsPermutation entries (e ∷ entries')) where
    rest_in : (f : C × ℕ) → Contains entries' f → Contains entries f
    rest_in f h = Contains-permutation (e ∷ entries') entries f (IsPermutation-sym _ _ p) (Contains-tail entries' e f h)

    -- of a number that has no open label
    pub IsQueue-skip : ((l : Label C) → HasLabel labels e.1 l → l.settled ≡ true) → IsQueue value labels entries'
    IsQueue-skip stale = record {
      labelled = λ f h. q.labelled f (rest_in f h);
      queued = λ k l h u. elim (Contains-cases entries' e (entry l.cost k) (Contains-permutation entries (e ∷ entries') (entry l.cost k) p (q.queued k l h u))) as (λ _. Contains entries' (entry l.cost k)) [
        | inl s ↦ absurd (true≢false (sym (stale l (subst (λ (n : ℕ). HasLabel labels n l) (sym (ap (λ (f : C × ℕ). f.1) s)) h)) ∙ u))
        | inr i ↦ i
      ];
    }

  -- ---- an entry of least cost
  module _ (labels : Labels C) (entries : Entries C) (e : C × ℕ) (q : IsQueue value labels entries) (h : Contains entries e) where
    pub entry_inside : e.1 < length labels
    entry_inside = let r = q.labelled e h in HasLabel-inside labels e.1 r.0 r.1

    pub least_entry : ((f : C × ℕ) → Contains entries f → value e.0 ≤ℤ value f.0) → (l : Label C) → HasLabel labels e.1 l → l.settled ≡ false → IsLeast (by_cost value) labels e.1 l
    least_entry least l at opened = record {
      at = at;
      opened = opened;
      least = λ j m k u.
          let r = q.labelled e h in
          let low : value l.cost ≤ℤ value e.0 = subst (λ (n : Label C). value n.cost ≤ℤ value e.0) (label_is labels e.1 r.0 l r.1 at) r.2 in
          omega (arith, ints, low, least (entry m.cost j) (q.queued j m k u));
    }

  -- ---- a label is settled
  pub IsQueue-settle : (k : ℕ) (l : Label C) (labels labels' : Labels C) (entries : Entries C) → Settles (by_cost value) k l labels labels' → IsQueue value labels entries → IsQueue value labels' entries
  IsQueue-settle k l labels labels' entries z q = record {
    labelled = λ e h.
        let r = q.labelled e h in
        elim (nat_dec e.1 k) as (λ _. (m : Label C) × HasLabel labels' e.1 m × (value m.cost ≤ℤ value e.0)) [
          | inl s ↦
              let same : r.0 ≡ l = label_is labels k r.0 l (subst (λ (n : ℕ). HasLabel labels n r.0) s r.1) z.was in
              (record l { settled = true }, subst (λ (n : ℕ). HasLabel labels' n (record l { settled = true })) (sym s) z.now, subst (λ (m : Label C). value m.cost ≤ℤ value e.0) same r.2)
          | inr s ↦ (r.0, z.others e.1 r.0 s r.1, r.2)
        ];
    queued = λ j m h u. elim (nat_dec j k) as (λ _. Contains entries (entry m.cost j)) [
      | inl s ↦ absurd (true≢false (sym (ap (λ (n : Label C). n.settled) (label_is labels' k m (record l { settled = true }) (subst (λ (n : ℕ). HasLabel labels' n m) s h) z.now)) ∙ u))
      | inr s ↦ q.queued j m (z.from j m s h) u
    ];
  }

  -- where nothing waits, each label is settled
  pub all_settled : (labels : Labels C) (entries : Entries C) → IsQueue value labels entries → entries ≡ [] → AllSettled labels
  all_settled labels entries q e = λ k l h. elim (bool_dec l.settled) as (λ _. l.settled ≡ true) [
    | inl t ↦ t
    | inr f ↦ let i = subst (λ (xs : Entries C). Contains xs (entry l.cost k)) e (q.queued k l h f) in absurd (omega (arith, i.1))
  ]

  pub IsQueue-widen : (n : ℕ) (labels labels' : Labels C) (entries : Entries C) → Widened n labels labels' → IsQueue value labels entries → IsQueue value labels' entries
  IsQueue-widen n labels labels' entries w q = record {
    labelled = λ e h. let r = q.labelled e h in (r.0, w.stays e.1 r.0 r.1, r.2);
    queued = λ k l h u. q.queued k l (w.from k l h) u;
  }

  -- no label, and no entry
  pub IsQueue-none : (labels : Labels C) (entries : Entries C) → entries ≡ [] → ((k : ℕ) (l : Label C) → ¬ (HasLabel labels k l)) → IsQueue value labels entries
  IsQueue-none labels entries e none = record {
    labelled = λ f h. let i = subst (λ (xs : Entries C). Contains xs f) e h in absurd (omega (arith, i.1));
    queued = λ k l h u. absurd (none k l h);
  }
