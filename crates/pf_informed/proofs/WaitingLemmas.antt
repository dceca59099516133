-- What waits, as labels are lowered and entries are taken out.
use Rattle.std.proofs.Common.{ℕ, ◌<◌, ◌≡◌, refl, sym, ◌∙◌, ap, subst, arith, Bool, true, false, List, [], ◌∷◌, length, inl, inr, ℤ, Some}
use Rattle.std.specs.Prelude.{slice_get, slice_set, Contains, IsPermutation, MatchBool, ◌≤ℤ◌, ◌<ℤ◌, ◌+ℤ◌, ◌⊎◌}
use Rattle.std.proofs.lemmas.Int.{ints}
use Rattle.std.proofs.lemmas.List.Sorted.{Contains-permutation, IsPermutation-sym}
use Rattle.pf_core.specs.declared.labels.Label.{Label}
use Rattle.pf_core.specs.Labels.{Labels, HasLabel}
use Rattle.pf_base.proofs.ListLemmas.{Contains-head, Contains-tail, Contains-cases}
use Rattle.pf_core.proofs.LabelLemmas.{label_is}
use Rattle.pf_informed.specs.Internal.Forest.{IsForest}
use Rattle.pf_informed.specs.Internal.Waiting.{Entry, IsSum, IsWaiting, IsQueue, SumsFit, IsTaken, Covers, Relaxed}
use Rattle.pf_informed.proofs.ForestLemmas.{there, other, was, lower_now, parent_apart}

module _ {C : Type 0} (value : C → ℤ) where
  -- ---- an entry is taken out
  module _ (labels : Labels C) (estimates : List C) (entries entries' : List (Entry C)) (e : Entry C) (q : IsQueue value labels estimates entries) (p : IsPermutation entries (e ∷ entries')) where
    pub taken_in : Contains entries e
    taken_in = Contains-permutation (e ∷ entries') entries e (IsPermutation-sym _ _ p) (Contains-head entries' e)

    rest_in : (f : Entry C) → Contains entries' f → Contains entries f
    rest_in f h = Contains-permutation (e ∷ entries') entries f (IsPermutation-sym _ _ p) (Contains-tail entries' e f h)

    pub IsQueue-rest : IsQueue value labels estimates entries'
    IsQueue-rest = record { labelled = λ f h. q.labelled f (rest_in f h) }

    -- what waited still waits, or has this very entry
    waits_or_taken : (k : ℕ) (l : Label C) → IsWaiting value estimates entries k l → ((e.1 ≡ k) × IsSum value estimates k (value l.cost) e.0) ⊎ IsWaiting value estimates entries' k l
    waits_or_taken k l w = elim (Contains-cases entries' e w.0 (Contains-permutation entries (e ∷ entries') w.0 p w.1)) as (λ _. ((e.1 ≡ k) × IsSum value estimates k (value l.cost) e.0) ⊎ IsWaiting value estimates entries' k l) [
      | inl s ↦ inl (ap (λ (f : Entry C). f.1) s ∙ w.2, subst (λ (f : Entry C). IsSum value estimates k (value l.cost) f.0) (sym s) w.3)
      | inr i ↦ inr (w.0, i, w.2, w.3)
    ]

    -- a stale entry
    pub waits_on : ((l : Label C) (h : C) → HasLabel labels e.1 l → slice_get estimates e.1 ≡ Some h → (value l.cost +ℤ value h) <ℤ value e.0) → (k : ℕ) (l : Label C) → HasLabel labels k l → IsWaiting value estimates entries k l → IsWaiting value estimates entries' k l
    waits_on stale k l h w = elim (waits_or_taken k l w) as (λ _. IsWaiting value estimates entries' k l) [
      | inl s ↦
          let at = s.1 in
          absurd (omega (arith, ints, stale l at.0 (subst (λ (n : ℕ). HasLabel labels n l) (sym s.0) h) (subst (λ (n : ℕ). slice_get estimates n ≡ Some at.0) (sym s.0) at.1), at.2))
      | inr i ↦ i
    ]

    -- the entry of a label, of least sum
    pub is_taken : (first : List (Entry C)) → ((k : ℕ) (l : Label C) → HasLabel labels k l → IsWaiting value estimates first k l → IsWaiting value estimates entries k l) → (cost : C) → (l : Label C) × HasLabel labels e.1 l × (cost ≡ l.cost)
        → ((l : Label C) (h : C) → HasLabel labels e.1 l → slice_get estimates e.1 ≡ Some h → value e.0 ≤ℤ (value l.cost +ℤ value h)) → ((f : Entry C) → Contains entries' f → value e.0 ≤ℤ value f.0) → IsTaken value labels estimates e.1 cost first entries'
    is_taken first waited cost own current least =
        let l = q.labelled e taken_in in
        let same = ap (λ (m : Label C). m.cost) (label_is labels e.1 l.0 own.0 l.1 own.1) ∙ sym own.2 in
        let low = current l.0 l.2 l.1 l.3 in
        record {
          label = l.0;
          at = l.1;
          same = ap value same;
          estimate = l.2;
          estimated = l.3;
          least = λ f i. omega (arith, ints, ap value same, l.4, least f i);
          left = λ k m a w. elim (waits_or_taken k m (waited k m a w)) as (λ _. (k ≡ e.1) ⊎ IsWaiting value estimates entries' k m) [ inl s ↦ inl (sym s.0) | inr i ↦ inr i ];
        }

  module _ (fits : ℤ → Type 0) (estimates : List C) where
    covers_lower : (labels labels' : Labels C) → ((k : ℕ) (l : Label C) → HasLabel labels k l → (m : Label C) × HasLabel labels' k m × (value m.cost ≤ℤ value l.cost)) → (j : ℕ) (t : ℤ) → Covers value fits estimates labels j t → Covers value fits estimates labels' j t
    covers_lower labels labels' lower j t (inl c) = let r = lower j c.0 c.1 in inl (r.0, r.1, omega (arith, ints, r.2, c.2))
    covers_lower labels labels' lower j t (inr c) = inr c

    module _ (parent : ℕ) (t : ℤ) where
      pub Relaxed-start : (row : List (ℕ × C)) → ((x : ℕ × C) → ¬ (Contains row x)) → (labels : Labels C) (entries : List (Entry C)) → Relaxed value fits estimates parent t row labels labels entries entries
      Relaxed-start row none labels entries = record {
        len = refl;
        lower = λ k l h. (l, h, omega (arith, ints));
        from = λ k m h. inl h;
        more = λ e h. h;
        own = λ l h. h;
        covered = λ j c h. absurd (none (j, c) h);
      }

      -- the step changes nothing
      pub Relaxed-none : (next : ℕ) (price : C) (labels : Labels C) (entries : List (Entry C)) → Covers value fits estimates labels next (t +ℤ value price) → Relaxed value fits estimates parent t ((next, price) ∷ []) labels labels entries entries
      Relaxed-none next price labels entries cov = record {
        len = refl;
        lower = λ k l h. (l, h, omega (arith, ints));
        from = λ k m h. inl h;
        more = λ e h. h;
        own = λ l h. h;
        covered = λ j c h. elim (Contains-cases [] (next, price) (j, c) h) as (λ _. Covers value fits estimates labels j (t +ℤ value c)) [
          | inl e ↦ subst (λ (x : ℕ × C). Covers value fits estimates labels x.0 (t +ℤ value x.1)) e cov
          | inr i ↦ absurd (omega (arith, i.1))
        ];
      }

      -- one step more
      pub Relaxed-more : (row row' : List (ℕ × C)) (item : ℕ × C) → ((x : ℕ × C) → Contains row x → Contains row' x) → Contains row' item → ((x : ℕ × C) → Contains row' x → Contains row x ⊎ (item ≡ x))
          → (labels mid labels' : Labels C) (entries between entries' : List (Entry C)) → Relaxed value fits estimates parent t row labels mid entries between → Relaxed value fits estimates parent t ((item.0, item.1) ∷ []) mid labels' between entries'
          → Relaxed value fits estimates parent t row' labels labels' entries entries'
      Relaxed-more row row' item more here only labels mid labels' entries between entries' a b = record {
        len = b.len ∙ a.len;
        lower = λ k l h. let r = a.lower k l h in let s = b.lower k r.0 r.1 in (s.0, s.1, omega (arith, ints, r.2, s.2));
        from = λ k m h. elim (b.from k m h) as (λ _. HasLabel labels k m ⊎ ((c : C) × Contains row' (k, c) × (m.parent ≡ parent) × (value m.cost ≡ t +ℤ value c) × IsWaiting value estimates entries' k m)) [
          | inl i ↦ elim (a.from k m i) as (λ _. HasLabel labels k m ⊎ ((c : C) × Contains row' (k, c) × (m.parent ≡ parent) × (value m.cost ≡ t +ℤ value c) × IsWaiting value estimates entries' k m)) [
            | inl j ↦ inl j
            | inr j ↦ let w = j.4 in inr (j.0, more (k, j.0) j.1, j.2, j.3, (w.0, b.more w.0 w.1, w.2, w.3))
          ]
          | inr i ↦ elim (Contains-cases [] (item.0, item.1) (k, i.0) i.1) as (λ _. HasLabel labels k m ⊎ ((c : C) × Contains row' (k, c) × (m.parent ≡ parent) × (value m.cost ≡ t +ℤ value c) × IsWaiting value estimates entries' k m)) [
            | inl e ↦ inr (i.0, subst (λ (x : ℕ × C). Contains row' x) e here, i.2, i.3, i.4)
            | inr n ↦ absurd (omega (arith, n.1))
          ]
        ];
        more = λ e h. b.more e (a.more e h);
        own = λ l h. b.own l (a.own l h);
        covered = λ j c h. elim (only (j, c) h) as (λ _. Covers value fits estimates labels' j (t +ℤ value c)) [
          | inl i ↦ covers_lower mid labels' b.lower j (t +ℤ value c) (a.covered j c i)
          | inr e ↦ b.covered j c (subst (λ (x : ℕ × C). Contains ((item.0, item.1) ∷ []) x) e (Contains-head [] item))
        ];
      }

  -- ---- a label is lowered, and its entry is put in
  module _ (labels : Labels C) (f : IsForest value labels) (next : ℕ) (new la : Label C) (inside : next < length labels) (less : (l : Label C) → HasLabel labels next l → value new.cost <ℤ value l.cost)
      (here : HasLabel labels new.parent la) (low : value la.cost ≤ℤ value new.cost) (deep : 0 < new.depth) (entries entries' : List (Entry C)) (sum : C) (p : IsPermutation ((sum, next) ∷ entries) entries') where
    abbrev entry : Entry C
    entry = (sum, next)

    pub entry_in : Contains entries' (sum, next)
    entry_in = Contains-permutation (entry ∷ entries) entries' entry p (Contains-head entries entry)

    pub more_in : (e : Entry C) → Contains entries e → Contains entries' e
    more_in e h = Contains-permutation (entry ∷ entries) entries' e p (Contains-tail entries entry e h)

    in_or_new : (e : Entry C) → Contains entries' e → (entry ≡ e) ⊎ Contains entries e
    in_or_new e h = Contains-cases entries entry e (Contains-permutation entries' (entry ∷ entries) e (IsPermutation-sym _ _ p) h)

    module _ (estimates : List C) (h : C) (at : slice_get estimates next ≡ Some h) (is : value sum ≡ value new.cost +ℤ value h) where
      pub IsQueue-lowered : IsQueue value labels estimates entries → IsQueue value (slice_set labels next (Some new)) estimates entries'
      IsQueue-lowered q = record {
        labelled = λ e i. elim (in_or_new e i) as (λ _. (l : Label C) × HasLabel (slice_set labels next (Some new)) e.1 l × (v : C) × (slice_get estimates e.1 ≡ Some v) × ((value l.cost +ℤ value v) ≤ℤ value e.0)) [
          | inl s ↦ subst (λ (x : Entry C). (l : Label C) × HasLabel (slice_set labels next (Some new)) x.1 l × (v : C) × (slice_get estimates x.1 ≡ Some v) × ((value l.cost +ℤ value v) ≤ℤ value x.0)) s
              (new, there value labels f next new la inside less here low deep, h, at, omega (arith, ints, is))
          | inr o ↦ let r = q.labelled e o in let s = lower_now value labels f next new la inside less here low deep e.1 r.0 r.1 in (s.0, s.1, r.2, r.3, omega (arith, ints, s.2, r.4))
        ];
      }

      pub SumsFit-lowered : (fits : ℤ → Type 0) → fits (value new.cost +ℤ value h) → SumsFit value fits labels estimates → SumsFit value fits (slice_set labels next (Some new)) estimates
      SumsFit-lowered fits fit sums k m v a b = elim (was value labels f next new la inside less here low deep k m a) as (λ _. fits (value m.cost +ℤ value v)) [
        | inl r ↦
            let e : Some h ≡ Some v = sym at ∙ subst (λ (n : ℕ). slice_get estimates n ≡ Some v) r.0 b in
            let same : h ≡ v = cc in
            subst (λ (z : ℤ). fits z) (omega (arith, ints, ap value same, ap (λ (l : Label C). value l.cost) r.1)) fit
        | inr r ↦ sums k m v r.1 b
      ]

      pub Relaxed-lowered : (fits : ℤ → Type 0) (t : ℤ) (price : C) → value new.cost ≡ t +ℤ value price → length (slice_set labels next (Some new)) ≡ length labels → Relaxed value fits estimates new.parent t ((next, price) ∷ []) labels (slice_set labels next (Some new)) entries entries'
      Relaxed-lowered fits t price costs len = record {
        len = len;
        lower = lower_now value labels f next new la inside less here low deep;
        from = λ k m i. elim (was value labels f next new la inside less here low deep k m i) as (λ _. HasLabel labels k m ⊎ ((c : C) × Contains {X = ℕ × C} ((next, price) ∷ []) (k, c) × (m.parent ≡ new.parent) × (value m.cost ≡ t +ℤ value c) × IsWaiting value estimates entries' k m)) [
          | inl r ↦ inr (
            price,
            subst (λ (n : ℕ). Contains {X = ℕ × C} ((next, price) ∷ []) (n, price)) (sym r.0) (Contains-head [] (next, price)),
            ap (λ (l : Label C). l.parent) r.1,
            ap (λ (l : Label C). value l.cost) r.1 ∙ costs,
            (entry, entry_in, sym r.0, (h, subst (λ (n : ℕ). slice_get estimates n ≡ Some h) (sym r.0) at, is ∙ ap (λ (l : Label C). value l.cost +ℤ value h) (sym r.1))),
          )
          | inr r ↦ inl r.1
        ];
        more = more_in;
        own = λ l h. other value labels f next new la inside less here low deep new.parent l (parent_apart value labels f next new la inside less here low deep) h;
        covered = λ j c h. elim (Contains-cases [] (next, price) (j, c) h) as (λ _. Covers value fits estimates (slice_set labels next (Some new)) j (t +ℤ value c)) [
          | inl e ↦ subst (λ (x : ℕ × C). Covers value fits estimates (slice_set labels next (Some new)) x.0 (t +ℤ value x.1)) e (inl (new, there value labels f next new la inside less here low deep, omega (arith, ints, costs)))
          | inr i ↦ absurd (omega (arith, i.1))
        ];
      }

-- what the comparison with the label that is there says
pub lowers_at : {C : Type 0} (value : C → ℤ) (labels : Labels C) (number : ℕ) (label : Label C) (cost : C) → HasLabel labels number label → (r : Bool) → MatchBool r (value cost <ℤ value label.cost) (value label.cost ≤ℤ value cost)
    → MatchBool r ((l : Label C) → HasLabel labels number l → value cost <ℤ value l.cost) ((l : Label C) × HasLabel labels number l × (value l.cost ≤ℤ value cost))
lowers_at value labels number label cost at true h = λ l k. subst (λ (m : Label _). value cost <ℤ value m.cost) (label_is labels number label l at k) h
lowers_at value labels number label cost at false h = (label, at, h)
