-- Lemmas on labels.
use Rattle.std.proofs.Common.{rules, ℕ, zero, suc, ◌+◌, ◌<◌, ◌≤◌, ◌≡◌, refl, sym, ◌∙◌, ap, subst, arith, Bool, true, false, List, [], ◌∷◌, ◌++◌, length, get_or, take, cond, inl, inr, ℤ, Option, Some, None, true≢false, replicate}
use Rattle.std.specs.Prelude.{slice_get, slice_set, Contains, MatchBool, MatchOption, ◌≤ℤ◌, ◌<ℤ◌, ◌+ℤ◌, ◌⊎◌}
use Rattle.std.proofs.lemmas.Int.{ints}
use Rattle.std.proofs.lemmas.List.Sums.{sum_by-append, count_by-le-length}
use Rattle.std.proofs.lemmas.List.Folds.{sum_by-replicate}
use Rattle.std.proofs.lemmas.Option.{slice_get_within, get_or_from_slice_get}
use Rattle.pf_core.specs.declared.labels.Label.{Label}
use Rattle.pf_core.specs.Labels.{Labels, HasLabel, by_cost, cost_of, is_settled, settled_count, IsTree, IsWithin, Settles, Lowered, ComesFrom, Covers, Stepped, Relaxed, Widened}
use Rattle.pf_base.proofs.ListLemmas.{at_place, count_by-set, count_by-set_more, Contains-take_more, Contains-take, Contains-take_here, get_set, none_in, get-append}

pub HasLabel-inside : {C : Type 0} (labels : Labels C) (k : ℕ) (l : Label C) → HasLabel labels k l → k < length labels
HasLabel-inside labels k l h = slice_get_within labels k (Some l) h

-- settling a label that was read out of its place
pub settled_at : {C : Type 0} (labels : Labels C) (k : ℕ) (place d : Option (Label C)) (read : Option (Label C)) (label l : Label C) (after : Option (Label C)) → place ≡ get_or labels k d → read ≡ place → read ≡ Some label → MatchOption place (after ≡ None) (λ m. after ≡ Some (record m { settled = true }))
    → HasLabel labels k l → (label.depth ≡ l.depth) × (slice_set labels k after ≡ slice_set labels k (Some (record l { settled = true })))
settled_at labels k place d read label l after is reads has settles at =
    let here : place ≡ Some l = is ∙ get_or_from_slice_get labels k (Some l) d at in
    let both : Some label ≡ Some l = sym has ∙ reads ∙ here in
    let same : label ≡ l = cc in
    let now : after ≡ Some (record l { settled = true }) = subst (λ o. MatchOption o (after ≡ None) (λ m. after ≡ Some (record m { settled = true }))) here settles in
    (ap (λ (m : Label _). m.depth) same, ap (λ s. slice_set labels k s) now)

-- where each label that was settled was asked for once, no more was asked for than was found
pub asked_within : {C : Type 0} (asked before found : ℕ) (labels : Labels C) → asked ≡ before + settled_count labels → length labels ≡ found → asked ≤ before + found
asked_within asked before found labels e len = omega (arith, e, len, count_by-le-length is_settled labels)

-- a number has one label
pub label_is : {C : Type 0} (labels : Labels C) (k : ℕ) (l m : Label C) → HasLabel labels k l → HasLabel labels k m → l ≡ m
label_is labels k l m h g = let e : Some (Some l) ≡ Some (Some m) = sym h ∙ g in cc

-- what holds of the label of a number holds of each label that it has
pub of_label : {C : Type 0} (P : Label C → Type 0) (labels : Labels C) (k : ℕ) (l : Label C) → HasLabel labels k l → P l → (m : Label C) → HasLabel labels k m → P m
of_label P labels k l h p m g = subst P (label_is labels k l m h g) p

module _ {C : Type 0} (measure : C → ℕ → ℤ) where
  module _ (labels : Labels C) (next : ℕ) (new : Label C) (opened : new.settled ≡ false) where
    -- nothing changes where the label that is there is settled or costs no more
    pub Lowered-none : (l : Label C) → HasLabel labels next l → IsWithin measure l (cost_of measure new) → Lowered measure next new labels labels
    Lowered-none l h w = record {
      len = refl;
      reached = (l, h, w);
      others = λ k m i. inl i;
      from = λ k m i. inl i;
      count = refl;
    }

    module _ (inside : next < length labels) (less : (l : Label C) → HasLabel labels next l → (l.settled ≡ false) × (cost_of measure new <ℤ cost_of measure l)) where
      after : Labels C
      after = slice_set labels next (Some new)

      there : HasLabel (slice_set labels next (Some new)) next new
      there = elim (get_set labels next next (Some new) inside) as (λ _. HasLabel (slice_set labels next (Some new)) next new) [ inl r ↦ r.1 | inr r ↦ absurd (r.0 refl) ]

      same_count : (o : Option (Option (Label C))) → slice_get labels next ≡ o → settled_count (slice_set labels next (Some new)) ≡ settled_count labels
      same_count None h = absurd (past labels next h inside)
        where
          past : (xs : Labels C) (k : ℕ) → slice_get xs k ≡ None → k < length xs → ⊥
          past [] k e l = omega (arith, l)
          past (x ∷ xs) zero e l = cc
          past (x ∷ xs) (suc k) e l = past xs k e (omega (arith, l))
      same_count (Some None) h = count_by-set is_settled labels next (Some new) None h opened
      same_count (Some (Some l)) h = count_by-set is_settled labels next (Some new) (Some l) h (opened ∙ sym (less l h).0)

      pub Lowered-set : Lowered measure next new labels (slice_set labels next (Some new))
      Lowered-set = record {
        len = search rules;
        reached = (new, there, inr (omega (arith, ints)));
        others = λ k l h. elim (get_set labels next k (Some new) inside) as (λ _. HasLabel (slice_set labels next (Some new)) k l ⊎ ((k ≡ next) × (l.settled ≡ false) × (cost_of measure new <ℤ cost_of measure l))) [
          | inl r ↦ let q = less l (subst (λ i. HasLabel labels i l) r.0 h) in inr (r.0, q.0, q.1)
          | inr r ↦ inl (r.1 ∙ h)
        ];
        from = λ k m h. elim (get_set labels next k (Some new) inside) as (λ _. HasLabel labels k m ⊎ ((k ≡ next) × (m ≡ new))) [
          | inl r ↦ inr (r.0, let e : Some (Some new) ≡ Some (Some m) = sym r.1 ∙ h in cc)
          | inr r ↦ inl (sym r.1 ∙ h)
        ];
        count = same_count (slice_get labels next) refl;
      }

  module _ (worth : C → ℤ) (fits : ℤ → Type 0) (parent : ℕ) (l : Label C) where
    pub Stepped-none : (next : ℕ) (price : C) (labels : Labels C) → ¬ (fits (cost_of measure l +ℤ worth price)) → Stepped measure worth fits parent l next price labels labels
    Stepped-none next price labels never = record { len = refl; reached = λ f. absurd (never f); others = λ k m h. inl h; from = λ k m h. inl h; count = refl }

    pub Stepped-from : (next : ℕ) (price total : C) (labels labels' : Labels C) → fits (cost_of measure l +ℤ worth price) → measure total (l.depth + 1) ≡ cost_of measure l +ℤ worth price
        → Lowered measure next (record { cost = total; parent = parent; depth = l.depth + 1; settled = false }) labels labels' → Stepped measure worth fits parent l next price labels labels'
    Stepped-from next price total labels labels' f e low = record {
      len = low.len;
      reached = λ _. (low.reached.0, low.reached.1, subst (λ z. IsWithin measure low.reached.0 z) e low.reached.2);
      others = λ k m h. elim (low.others k m h) as (λ _. HasLabel labels' k m ⊎ ((k ≡ next) × (m.settled ≡ false) × ((cost_of measure l +ℤ worth price) <ℤ cost_of measure m) × fits (cost_of measure l +ℤ worth price))) [
        | inl i ↦ inl i
        | inr i ↦ inr (i.0, i.1, subst (λ z. z <ℤ cost_of measure m) e i.2, f)
      ];
      from = λ k m h. elim (low.from k m h) as (λ _. HasLabel labels k m ⊎ ((k ≡ next) × ComesFrom measure worth parent l price m)) [
        | inl i ↦ inl i
        | inr i ↦ inr (
          i.0,
          record {
            before = ap (λ (n : Label C). n.parent) i.1;
            deeper = ap (λ (n : Label C). n.depth) i.1;
            opened = ap (λ (n : Label C). n.settled) i.1;
            sum = ap (λ (n : Label C). cost_of measure n) i.1 ∙ e;
          },
        )
      ];
      count = low.count;
    }

    module _ (next : ℕ) (price : C) (row row' : List (ℕ × C)) (more : (x : ℕ × C) → Contains row x → Contains row' x) (here : Contains row' (next, price))
        (labels mid labels' : Labels C) (step : Stepped measure worth fits parent l next price mid labels') where
      pub Relaxed-more : Relaxed measure worth parent l row labels mid → Relaxed measure worth parent l row' labels labels'
      Relaxed-more rel = record {
        len = step.len ∙ rel.len;
        others = λ k m h. elim (rel.others k m h) as (λ _. HasLabel labels' k m ⊎ ((m.settled ≡ false) × ((c : C) × Contains row' (k, c) × ((cost_of measure l +ℤ worth c) <ℤ cost_of measure m)))) [
          | inl i ↦ elim (step.others k m i) as (λ _. HasLabel labels' k m ⊎ ((m.settled ≡ false) × ((c : C) × Contains row' (k, c) × ((cost_of measure l +ℤ worth c) <ℤ cost_of measure m)))) [
            | inl j ↦ inl j
            | inr j ↦ inr (j.1, (price, subst (λ (n : ℕ). Contains row' (n, price)) (sym j.0) here, j.2))
          ]
          | inr i ↦ inr (i.0, (i.1.0, more _ i.1.1, i.1.2))
        ];
        from = λ k m h. elim (step.from k m h) as (λ _. HasLabel labels k m ⊎ ((c : C) × Contains row' (k, c) × ComesFrom measure worth parent l c m)) [
          | inl i ↦ elim (rel.from k m i) as (λ _. HasLabel labels k m ⊎ ((c : C) × Contains row' (k, c) × ComesFrom measure worth parent l c m)) [
            | inl j ↦ inl j
            | inr j ↦ inr (j.0, more _ j.1, j.2)
          ]
          | inr i ↦ inr (price, subst (λ (n : ℕ). Contains row' (n, price)) (sym i.0) here, i.1)
        ];
        count = step.count ∙ rel.count;
      }

      -- a label that covers a step still does, or the label that took its place
      pub Covers-stays : (j : ℕ) (c : C) → Covers measure worth l mid j c → Covers measure worth l labels' j c
      Covers-stays j c cov = elim (step.others j cov.0 cov.1) as (λ _. Covers measure worth l labels' j c) [
        | inl i ↦ (cov.0, i, cov.2)
        | inr i ↦ let r = step.reached i.3 in (
          r.0,
          subst (λ n. HasLabel labels' n r.0) (sym i.0) r.1,
          elim r.2 as (λ _. IsWithin measure r.0 (cost_of measure l +ℤ worth c)) [
            | inl t ↦ inl t
            | inr low ↦ elim cov.2 as (λ _. IsWithin measure r.0 (cost_of measure l +ℤ worth c)) [
              | inl t ↦ absurd (true≢false (sym t ∙ i.1))
              | inr was ↦ inr (omega (arith, ints, low, was, i.2))
            ]
          ],
        )
      ]

      pub Covers-here : (j : ℕ) (c : C) → ◌≡◌ {A = ℕ × C} (next, price) (j, c) → fits (cost_of measure l +ℤ worth c) → Covers measure worth l labels' j c
      Covers-here j c e f =
          let a : next ≡ j = ap (λ (x : ℕ × C). x.0) e in
          let b : price ≡ c = ap (λ (x : ℕ × C). x.1) e in
          let r = step.reached (subst (λ (p : C). fits (cost_of measure l +ℤ worth p)) (sym b) f) in
          (r.0, subst (λ n. HasLabel labels' n r.0) a r.1, subst (λ (p : C). IsWithin measure r.0 (cost_of measure l +ℤ worth p)) b r.2)

  module _ (worth : C → ℤ) (fits : ℤ → Type 0) (parent : ℕ) (l : Label C) (row : List (ℕ × C)) (i : ℕ) (item : ℕ × C) (is : item ≡ get_or row i item) (inside : i < length row)
      (mid labels' : Labels C) (step : Stepped measure worth fits parent l item.0 item.1 mid labels') where
    pub reached_more : ((j : ℕ) (c : C) → Contains (take i row) (j, c) → fits (cost_of measure l +ℤ worth c) → Covers measure worth l mid j c)
        → (j : ℕ) (c : C) → Contains (take (i + 1) row) (j, c) → fits (cost_of measure l +ℤ worth c) → Covers measure worth l labels' j c
    reached_more before j c k f = elim (Contains-take_more row i item (j, c) k) as (λ _. Covers measure worth l labels' j c) [
      | inl b ↦ Covers-stays worth fits parent l item.0 item.1 (take i row) (take (i + 1) row) (λ x h. Contains-take row i x h) (Contains-take_here row i item inside is) mid mid labels' step j c (before j c b f)
      | inr e ↦ Covers-here worth fits parent l item.0 item.1 (take i row) (take (i + 1) row) (λ x h. Contains-take row i x h) (Contains-take_here row i item inside is) mid mid labels' step j c (is ∙ e) f
    ]

  -- an open label of least cost is settled
  module _ (labels : Labels C) (k : ℕ) (l : Label C) (at : HasLabel labels k l) (opened : l.settled ≡ false) where
    abbrev done : Label C
    done = record l { settled = true }

    inside_l : k < length labels
    inside_l = HasLabel-inside labels k l at

    pub Settles-set : ((j : ℕ) (m : Label C) → HasLabel labels j m → m.settled ≡ false → cost_of measure l ≤ℤ cost_of measure m) → Settles measure k l labels (slice_set labels k (Some (record l { settled = true })))
    Settles-set least = record {
      len = search rules;
      was = at;
      opened = opened;
      now = elim (get_set labels k k (Some done) inside_l) as (λ _. HasLabel (slice_set labels k (Some done)) k done) [ inl r ↦ r.1 | inr r ↦ absurd (r.0 refl) ];
      others = λ j m ne h. elim (get_set labels k j (Some done) inside_l) as (λ _. HasLabel (slice_set labels k (Some done)) j m) [ inl r ↦ absurd (ne r.0) | inr r ↦ r.1 ∙ h ];
      from = λ j m ne h. elim (get_set labels k j (Some done) inside_l) as (λ _. HasLabel labels j m) [ inl r ↦ absurd (ne r.0) | inr r ↦ sym r.1 ∙ h ];
      least = least;
      count = count_by-set_more is_settled labels k (Some done) (Some l) at opened refl;
    }

module _ {C : Type 0} where
  -- entries of nothing add no label
  from_wider : (labels : Labels C) (n k : ℕ) (l : Label C) → HasLabel (labels ++ replicate n None) k l → HasLabel labels k l
  from_wider [] zero k l h = absurd (none_in k (Some l) h)
  from_wider [] (suc n) zero l h = let e : Some None ≡ Some (Some l) = h in cc
  from_wider [] (suc n) (suc k) l h = absurd (none_in k (Some l) (from_wider [] n k l h))
  from_wider (x ∷ xs) n zero l h = h
  from_wider (x ∷ xs) n (suc k) l h = from_wider xs n k l h

  pub Widened-more : (labels labels' : Labels C) (n m : ℕ) → labels' ≡ labels ++ replicate m None → length labels' ≡ n → Widened n labels labels'
  Widened-more labels labels' n m e len = record {
    len = len;
    stays = λ k l h. subst (λ (xs : Labels C). HasLabel xs k l) (sym e) (get-append labels (replicate m None) k (Some l) h);
    from = λ k l h. from_wider labels m k l (subst (λ (xs : Labels C). HasLabel xs k l) e h);
    count =
        let f : Option (Label C) → ℕ = λ o. cond (is_settled o) 1 0 in
        omega (arith, ap settled_count e, sum_by-append f labels (replicate m None), sum_by-replicate f m None);
  }

module _ {C : Type 0} (value : C → ℤ) (labels : Labels C) (next : ℕ) (label : Label C) (total : C) (at : HasLabel labels next label) where
  -- what the comparison with an open label says
  pub improves_at : (r : Bool) → label.settled ≡ false → MatchBool r (value total <ℤ value label.cost) (value label.cost ≤ℤ value total)
      → MatchBool r ((l : Label C) → HasLabel labels next l → (l.settled ≡ false) × (value total <ℤ value l.cost)) ((l : Label C) × HasLabel labels next l × IsWithin (by_cost value) l (value total))
  improves_at true o h = of_label (λ l. (l.settled ≡ false) × (value total <ℤ value l.cost)) labels next label at (o, h)
  improves_at false o h = (label, at, inr h)

-- nothing has a label where there is room alone
pub none_widened : {C : Type 0} (n : ℕ) (labels wider : Labels C) → labels ≡ [] → Widened n labels wider → (k : ℕ) (l : Label C) → ¬ (HasLabel wider k l)
none_widened n labels wider e w k l h = none_in k (Some l) (subst (λ (xs : Labels _). HasLabel xs k l) e (w.from k l h))

-- what the place of a number tells of whether its label is open
pub open_there : {C : Type 0} (labels : Labels C) (number : ℕ) → number < length labels → (o : Option (Label C)) → o ≡ get_or labels number o → (r : Bool)
    → MatchBool r ((l : Label C) × (o ≡ Some l) × (l.settled ≡ false)) ((l : Label C) → o ≡ Some l → l.settled ≡ true)
    → MatchBool r ((l : Label C) × HasLabel labels number l × (l.settled ≡ false)) ((l : Label C) → HasLabel labels number l → l.settled ≡ true)
open_there labels number h o is true m = (m.0, at_place labels number o o h (sym is) ∙ ap Some m.1, m.2)
open_there labels number h o is false m = λ l k. m l (let e : Some o ≡ Some (Some l) = sym (at_place labels number o o h (sym is)) ∙ k in cc)

-- what the place of a number tells of its parent
pub parent_there : {C : Type 0} (labels : Labels C) (number : ℕ) → number < length labels → (o : Option (Label C)) → o ≡ get_or labels number o → (r : Option ℕ)
    → MatchOption r ((l : Label C) → o ≡ Some l → l.depth ≡ 0) (λ p. (l : Label C) × (o ≡ Some l) × (l.parent ≡ p) × (0 < l.depth))
    → MatchOption r ((l : Label C) → HasLabel labels number l → l.depth ≡ 0) (λ p. (l : Label C) × HasLabel labels number l × (l.parent ≡ p) × (0 < l.depth))
parent_there labels number h o is None m = λ l k. m l (let e : Some o ≡ Some (Some l) = sym (at_place labels number o o h (sym is)) ∙ k in cc)
parent_there labels number h o is (Some p) m = (m.0, at_place labels number o o h (sym is) ∙ ap Some m.1, m.2, m.3)

-- the parent of a label that is not the first has a settled label, which is one less deep
pub parent_labelled : {C : Type 0} (labels : Labels C) → IsTree labels → (k : ℕ) (l : Label C) → HasLabel labels k l → 0 < l.depth → (m : Label C) × HasLabel labels l.parent m × (m.settled ≡ true) × (l.depth ≡ m.depth + 1)
parent_labelled labels tree k l h deep = elim (tree.linked k l h) as (λ _. (m : Label _) × HasLabel labels l.parent m × (m.settled ≡ true) × (l.depth ≡ m.depth + 1)) [
  | inl r ↦ absurd (omega (arith, deep, r))
  | inr r ↦ r
]

-- the label of one number alone
module _ {C : Type 0} (labels : Labels C) (none : (k : ℕ) (l : Label C) → ¬ (HasLabel labels k l)) (n : ℕ) (first : Label C) (inside : n < length labels) where
  pub first_there : HasLabel (slice_set labels n (Some first)) n first
  first_there = elim (get_set labels n n (Some first) inside) as (λ _. HasLabel (slice_set labels n (Some first)) n first) [ inl r ↦ r.1 | inr r ↦ absurd (r.0 refl) ]

  pub only_first : (k : ℕ) (l : Label C) → HasLabel (slice_set labels n (Some first)) k l → (k ≡ n) × (l ≡ first)
  only_first k l h = elim (get_set labels n k (Some first) inside) as (λ _. (k ≡ n) × (l ≡ first)) [
    | inl r ↦ let q : Some (Some first) ≡ Some (Some l) = sym r.1 ∙ h in let e : first ≡ l = cc in (r.0, sym e)
    | inr r ↦ absurd (none k l (sym r.1 ∙ h))
  ]

  pub tree_start : first.depth ≡ 0 → IsTree (slice_set labels n (Some first))
  tree_start flat = record { linked = λ k l h. inl (ap (λ (m : Label C). m.depth) (only_first k l h).1 ∙ flat) }
