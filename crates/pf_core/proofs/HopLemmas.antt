-- A search by number of edges: numbers in the order found are visited in turn.
use Rattle.std.proofs.Common.{ℕ, zero, suc, ◌+◌, ◌-◌, ◌^◌, ◌<◌, ◌≤◌, ◌≡◌, refl, sym, ◌∙◌, ap, subst, arith, Bool, true, false, List, [], ◌∷◌, ◌++◌, length, length-append, inl, inr, ℤ, pos, Option, Some, None, true≢false, replicate, cond, map}
use Rattle.std.specs.Prelude.{slice_get, slice_set, Contains, ◌↔◌, ◌≤ℤ◌, ◌⊎◌}
use Rattle.std.proofs.lemmas.Bool.{lt-ltb, ltb-true}
use Rattle.std.proofs.lemmas.Int.{ints}
use Rattle.std.proofs.lemmas.List.Sums.{sum_by-append}
use Rattle.std.proofs.lemmas.List.Folds.{sum_by-replicate}
use Rattle.pf_core.specs.declared.labels.Label.{Label}
use Rattle.pf_core.specs.Labels.{Labels, HasLabel, by_depth, is_settled, settled_count, AllSettled, IsTree, Settles, Widened, Relaxed, ComesFrom, Covers}
use Rattle.pf_core.specs.Steps.{IsHop, IsNonNegative}
use Rattle.pf_core.specs.Breadth.{Hops, IsBreadth, below}
use Rattle.pf_core.specs.Numbered.{ListsSteps, Grows, StandsBelow}
use Rattle.pf_core.proofs.PathLemmas.{was_label, IsTree-turn, IsTree-settle}
use Rattle.pf_core.specs.Search.{IsLeast, IsSearch, StandsRoot}
use Rattle.pf_core.proofs.SearchLemmas.{search_start, turn}
use Rattle.pf_base.proofs.ListLemmas.{nat_dec, Contains-head, Contains-tail, Contains-cases, get-append, none_in}
use Rattle.pf_core.proofs.LabelLemmas.{HasLabel-inside, Settles-set, Widened-more}

-- the label of a node that was reached from the number `parent`
abbrev pub reached_from : ℕ → ℕ → Label Hops
reached_from parent depth = record { cost = tt; parent = parent; depth = depth; settled = false }

-- a visit leaves fewer nodes to visit
pub visit_left : {C : Type 0} (n : ℕ) (labels : Labels C) → n < length labels → length labels ≤ 2 ^ 62 → 2 ^ 64 - (n + 1) < 2 ^ 64 - n
visit_left n labels lt few = omega (arith, lt, few)

pub le_or_less : (i j : ℕ) → (i ≤ j) ⊎ (j < i)
le_or_less zero j = inl (omega arith)
le_or_less (suc i) zero = inr (omega arith)
le_or_less (suc i) (suc j) = elim (le_or_less i j) as (λ _. (suc i ≤ suc j) ⊎ (suc j < suc i)) [ inl h ↦ inl (omega (arith, h)) | inr h ↦ inr (omega (arith, h)) ]

-- no open label has less depth than that of the number n
breadth_least : (n : ℕ) (labels : Labels Hops) (l : Label Hops) → IsBreadth n labels → HasLabel labels n l → (j : ℕ) (m : Label Hops) → HasLabel labels j m → m.settled ≡ false → pos l.depth ≤ℤ pos m.depth
breadth_least n labels l b at j m h o = elim (le_or_less n j) as (λ _. pos l.depth ≤ℤ pos m.depth) [
  | inl le ↦ let r = b.rising n j l m at h le in omega (arith, ints, r)
  | inr lt ↦ absurd (true≢false (sym (b.done j m h lt) ∙ o))
]

-- where all numbers were visited, all labels are settled
pub breadth_done : (n : ℕ) (labels : Labels Hops) → IsBreadth n labels → length labels ≤ n → AllSettled labels
breadth_done n labels b all k l h = b.done k l h (omega (arith, HasLabel-inside labels k l h, all))

-- the first labels were put into an empty list
pub started : (labels0 labels : Labels Hops) (found n : ℕ) (v : Option (Label Hops)) → labels0 ≡ [] → labels ≡ labels0 ++ replicate (found - length labels0) v → v ≡ Some (reached_from 0 0) → found ≡ n → labels ≡ replicate n (Some (reached_from 0 0))
started labels0 labels found n v nil e is q =
    let none : length labels0 ≡ 0 = ap length nil in
    let more : found - length labels0 ≡ n = omega (arith, none, q) in
    e ∙ ap (λ xs. xs ++ replicate (found - length labels0) v) nil ∙ ap (λ i. replicate i v) more ∙ ap (λ x. replicate n x) is

-- more of one label were put behind the others
pub resized : (labels1 labels3 : Labels Hops) (more parent depth deep : ℕ) (v : Option (Label Hops)) → labels3 ≡ labels1 ++ replicate more v → v ≡ Some (reached_from parent (deep + 1)) → deep ≡ depth
    → labels3 ≡ labels1 ++ replicate more (Some (reached_from parent (depth + 1)))
resized labels1 labels3 more parent depth deep v e is d = e ∙ ap (λ x. labels1 ++ replicate more x) (is ∙ ap (λ i. Some (reached_from parent (i + 1))) d)

-- ---- labels of one kind alone, and behind others

module _ {A : Type 0} where
  get-replicate : (n k : ℕ) (x y : A) → slice_get (replicate n x) k ≡ Some y → y ≡ x
  get-replicate zero k x y h = absurd (none_in k y h)
  get-replicate (suc n) zero x y h = let e : Some x ≡ Some y = h in cc
  get-replicate (suc n) (suc k) x y h = get-replicate n k x y h

  replicate-get : (n k : ℕ) (x : A) → k < n → slice_get (replicate n x) k ≡ Some x
  replicate-get zero k x h = absurd (omega (arith, h))
  replicate-get (suc n) zero x h = refl
  replicate-get (suc n) (suc k) x h = replicate-get n k x (omega (arith, h))

  -- what stands in a list, or behind it
  get-behind : (xs : List A) (n k : ℕ) (x y : A) → slice_get (xs ++ replicate n x) k ≡ Some y → (slice_get xs k ≡ Some y) ⊎ ((length xs ≤ k) × (y ≡ x))
  get-behind [] n k x y h = inr (omega arith, get-replicate n k x y h)
  get-behind (z ∷ zs) n zero x y h = inl h
  get-behind (z ∷ zs) n (suc k) x y h = elim (get-behind zs n k x y h) as (λ _. (slice_get zs k ≡ Some y) ⊎ ((length (z ∷ zs) ≤ suc k) × (y ≡ x))) [ inl e ↦ inl e | inr e ↦ inr (omega (arith, e.0), e.1) ]

  behind-get : (xs : List A) (n k : ℕ) (x : A) → length xs ≤ k → k < length xs + n → slice_get (xs ++ replicate n x) k ≡ Some x
  behind-get [] n k x l h = replicate-get n k x (omega (arith, h))
  behind-get (z ∷ zs) n zero x l h = absurd (omega (arith, l))
  behind-get (z ∷ zs) n (suc k) x l h = behind-get zs n k x (omega (arith, l)) (omega (arith, h))

-- ---- the beginning: the first numbers, all of depth 0

module _ (found : ℕ) (labels : Labels Hops) (e : labels ≡ replicate found (Some (reached_from 0 0))) (len : length labels ≡ found) where
  pub at_start : (k : ℕ) (l : Label Hops) → HasLabel labels k l → l ≡ reached_from 0 0
  at_start k l h = let q : Some l ≡ Some (reached_from 0 0) = get-replicate found k (Some (reached_from 0 0)) (Some l) (subst (λ (xs : Labels Hops). HasLabel xs k l) e h) in cc

  pub start_at : (k : ℕ) → k < found → HasLabel labels k (reached_from 0 0)
  start_at k h = subst (λ (xs : Labels Hops). HasLabel xs k (reached_from 0 0)) (sym e) (replicate-get found k (Some (reached_from 0 0)) h)

  pub breadth_start : IsBreadth 0 labels
  breadth_start = record {
    inside = omega arith;
    full = λ k h. (reached_from 0 0, start_at k (omega (arith, h, len)));
    done = λ k l h b. absurd (omega (arith, b));
    opened = λ k l h b. ap (λ (m : Label Hops). m.settled) (at_start k l h);
    rising = λ j k l m h g b. omega (arith, ap (λ (n : Label Hops). n.depth) (at_start j l h));
    near = λ k l m h g. omega (arith, ap (λ (n : Label Hops). n.depth) (at_start k m g));
    flat = λ k l h. omega (arith, ap (λ (n : Label Hops). n.depth) (at_start k l h));
  }

  pub hop_tree_start : IsTree labels
  hop_tree_start = record { linked = λ k l h. inl (ap (λ (n : Label Hops). n.depth) (at_start k l h)) }

-- ---- a row without its costs

abbrev pub hops_of : {C : Type 0} → List (ℕ × C) → List (ℕ × Hops)
hops_of {C} row = map (λ (e : ℕ × C). (e.0, tt)) row

abbrev pub one_each : Hops → ℤ
one_each c = pos 1

module _ {C : Type 0} where
  pub hops-contain : (row : List (ℕ × C)) (j : ℕ) (c : C) → Contains row (j, c) → Contains (hops_of row) (j, tt)
  hops-contain [] j c h = absurd (omega (arith, h.1))
  hops-contain (r ∷ row) j c h = elim (Contains-cases row r (j, c) h) as (λ _. Contains (hops_of (r ∷ row)) (j, tt)) [
    | inl e ↦ subst (λ (k : ℕ). Contains (hops_of (r ∷ row)) (k, tt)) (ap (λ (p : ℕ × C). p.0) e) (Contains-head (hops_of row) (r.0, tt))
    | inr k ↦ Contains-tail (hops_of row) (r.0, tt) (j, tt) (hops-contain row j c k)
  ]

  pub hops-from : (row : List (ℕ × C)) (j : ℕ) → Contains (hops_of row) (j, tt) → (c : C) × Contains row (j, c)
  hops-from [] j h = absurd (omega (arith, h.1))
  hops-from (r ∷ row) j h = elim (Contains-cases (hops_of row) (r.0, tt) (j, tt) h) as (λ _. (c : C) × Contains (r ∷ row) (j, c)) [
    | inl e ↦ (r.1, subst (λ (k : ℕ). Contains (r ∷ row) (k, r.1)) (ap (λ (p : ℕ × Hops). p.0) e) (Contains-head row r))
    | inr k ↦ let q = hops-from row j k in (q.0, Contains-tail row r (j, q.0) q.1)
  ]

  pub hops-list : {X : Type 0} (value : C → ℤ) (step : X → ℤ → X → Type 0) (hop : IsHop step) (stands : ℕ → X → Type 0) (x : X) (row : List (ℕ × C)) → ListsSteps value step stands x row → ListsSteps one_each step stands x (hops_of row)
  hops-list value step hop stands x row l = record {
    numbered = l.numbered;
    complete = λ z y j s t. let r = l.complete z y j s t in (tt, hops-contain row j r.0 r.1, sym (hop.one x z y s));
    sound = λ j c h. let q = hops-from row j h in let r = l.sound j q.0 q.1 in (r.0, subst (λ (z : ℤ). step x z r.0) (hop.one x (value q.0) r.0 r.1) r.1, r.2);
  }

pub hop_positive : {X : Type 0} (step : X → ℤ → X → Type 0) → IsHop step → IsNonNegative step
hop_positive step h = record { non_negative = λ a z b s. subst (λ (y : ℤ). pos 0 ≤ℤ y) (sym (h.one a z b s)) (omega (arith, ints)) }

pub hop_len : (n : ℕ) (l : Label Hops) (labels labels1 : Labels Hops) → IsBreadth n labels → HasLabel labels n l → labels1 ≡ slice_set labels n (Some (record l { settled = true })) → length labels1 ≡ length labels
hop_len n l labels labels1 b at e =
    let z : Settles by_depth n l labels (slice_set labels n (Some (record l { settled = true }))) = Settles-set by_depth labels n l at (b.opened n l at (omega arith)) (breadth_least n labels l b at) in
    ap length e ∙ z.len

-- ---- a turn: the number n is settled, and the nodes that are new are one step farther

module _ (n : ℕ) (l : Label Hops) (labels labels1 labels3 : Labels Hops) (b : IsBreadth n labels) (at : HasLabel labels n l)
    (e1 : labels1 ≡ slice_set labels n (Some (record l { settled = true }))) (more : ℕ) (e3 : labels3 ≡ labels1 ++ replicate more (Some (reached_from n (l.depth + 1)))) where
  abbrev new : Label Hops
  new = reached_from n (l.depth + 1)

  pub hop_settles : Settles by_depth n l labels labels1
  hop_settles = subst (λ (xs : Labels Hops). Settles by_depth n l labels xs) (sym e1) (Settles-set by_depth labels n l at (b.opened n l at (omega arith)) (breadth_least n labels l b at))

  len1 : length labels1 ≡ length labels
  len1 = hop_settles.len

  -- a label after the turn: an old one, but for the mark, or a new one
  pub old_or_new : (k : ℕ) (m : Label Hops) → HasLabel labels3 k m → HasLabel labels1 k m ⊎ ((length labels ≤ k) × (m ≡ reached_from n (l.depth + 1)))
  old_or_new k m h = elim (get-behind labels1 more k (Some new) (Some m) (subst (λ (xs : Labels Hops). HasLabel xs k m) e3 h)) as (λ _. HasLabel labels1 k m ⊎ ((length labels ≤ k) × (m ≡ reached_from n (l.depth + 1)))) [
    | inl q ↦ inl q
    | inr q ↦ inr (omega (arith, q.0, len1), let f : Some m ≡ Some new = q.1 in cc)
  ]

  pub old_at : (k : ℕ) (m : Label Hops) → HasLabel labels1 k m → (o : Label Hops) × HasLabel labels k o × (m.depth ≡ o.depth)
  old_at k m h = elim (was_label by_depth n l labels labels1 hop_settles k m h) as (λ _. (o : Label Hops) × HasLabel labels k o × (m.depth ≡ o.depth)) [
    | inl q ↦ (l, subst (λ (i : ℕ). HasLabel labels i l) (sym q.0) at, ap (λ (x : Label Hops). x.depth) q.1)
    | inr q ↦ (m, q.1, refl)
  ]

  depth_low : (k : ℕ) (m : Label Hops) → HasLabel labels3 k m → m.depth ≤ l.depth + 1
  depth_low k m h = elim (old_or_new k m h) as (λ _. m.depth ≤ l.depth + 1) [
    | inl q ↦ let o = old_at k m q in omega (arith, b.near k l o.0 at o.1, o.2)
    | inr q ↦ omega (arith, ap (λ (x : Label Hops). x.depth) q.1)
  ]

  stays_at : (k : ℕ) (m : Label Hops) → HasLabel labels1 k m → HasLabel labels3 k m
  stays_at k m h = subst (λ (xs : Labels Hops). HasLabel xs k m) (sym e3) (get-append labels1 (replicate more (Some new)) k (Some m) h)

  inside_n : n < length labels
  inside_n = HasLabel-inside labels n l at

  pub breadth_turn : IsBreadth (n + 1) labels3
  breadth_turn = record {
    inside = omega (arith, inside_n, ap length e3, length-append labels1 (replicate more (Some new)), len1);
    full = λ k h. elim (less_or_more k) as (λ _. (m : Label Hops) × HasLabel labels3 k m) [
      | inl lt ↦ let o = b.full k lt in elim (nat_dec k n) as (λ _. (m : Label Hops) × HasLabel labels3 k m) [
        | inl q ↦ (record l { settled = true }, stays_at k (record l { settled = true }) (subst (λ (i : ℕ). HasLabel labels1 i (record l { settled = true })) (sym q) hop_settles.now))
        | inr q ↦ (o.0, stays_at k o.0 (hop_settles.others k o.0 q o.1))
      ]
      | inr ge ↦ (new, subst (λ (xs : Labels Hops). HasLabel xs k new) (sym e3) (behind-get labels1 more k (Some new) (omega (arith, ge, len1)) (omega (arith, h, ap length e3, length-append labels1 (replicate more (Some new)), replicate_len more (Some new)))))
    ];
    done = λ k m h lt. elim (old_or_new k m h) as (λ _. m.settled ≡ true) [
      | inl q ↦ elim (was_label by_depth n l labels labels1 hop_settles k m q) as (λ _. m.settled ≡ true) [
        | inl r ↦ ap (λ (x : Label Hops). x.settled) r.1
        | inr r ↦ b.done k m r.1 (omega (arith, lt, r.0))
      ]
      | inr q ↦ absurd (omega (arith, q.0, lt, inside_n))
    ];
    opened = λ k m h ge. elim (old_or_new k m h) as (λ _. m.settled ≡ false) [
      | inl q ↦ elim (was_label by_depth n l labels labels1 hop_settles k m q) as (λ _. m.settled ≡ false) [
        | inl r ↦ absurd (omega (arith, r.0, ge))
        | inr r ↦ b.opened k m r.1 (omega (arith, ge))
      ]
      | inr q ↦ ap (λ (x : Label Hops). x.settled) q.1
    ];
    rising = λ j k x m h g le. elim (old_or_new j x h) as (λ _. x.depth ≤ m.depth) [
      | inl q ↦ let o = old_at j x q in elim (old_or_new k m g) as (λ _. x.depth ≤ m.depth) [
        | inl r ↦ let p = old_at k m r in omega (arith, b.rising j k o.0 p.0 o.1 p.1 le, o.2, p.2)
        | inr r ↦ omega (arith, b.near j l o.0 at o.1, o.2, ap (λ (y : Label Hops). y.depth) r.1)
      ]
      | inr q ↦ elim (old_or_new k m g) as (λ _. x.depth ≤ m.depth) [
        | inl r ↦ let p = old_at k m r in absurd (omega (arith, q.0, le, HasLabel-inside labels k p.0 p.1))
        | inr r ↦ omega (arith, ap (λ (y : Label Hops). y.depth) q.1, ap (λ (y : Label Hops). y.depth) r.1)
      ]
    ];
    near = λ k x m h g. elim (old_or_new (n + 1) x h) as (λ _. m.depth ≤ x.depth + 1) [
      | inl q ↦ let o = old_at (n + 1) x q in omega (arith, depth_low k m g, b.rising n (n + 1) l o.0 at o.1 (omega arith), o.2)
      | inr q ↦ omega (arith, depth_low k m g, ap (λ (y : Label Hops). y.depth) q.1)
    ];
    flat = λ k m h. omega (arith, depth_low k m h, b.flat n l at);
  }
    where
      less_or_more : (k : ℕ) → (k < length labels) ⊎ (length labels ≤ k)
      less_or_more k = by k (length labels)
        where
          by : (i j : ℕ) → (i < j) ⊎ (j ≤ i)
          by i zero = inr (omega arith)
          by zero (suc j) = inl (omega arith)
          by (suc i) (suc j) = elim (by i j) as (λ _. (suc i < suc j) ⊎ (suc j ≤ suc i)) [ inl h ↦ inl (omega (arith, h)) | inr h ↦ inr (omega (arith, h)) ]

      replicate_len : {A : Type 0} (i : ℕ) (x : A) → length (replicate i x) ≡ i
      replicate_len zero x = refl
      replicate_len (suc i) x = ap suc (replicate_len i x)

  -- the labels before the new ones were put in
  abbrev wider : Labels Hops
  wider = labels1 ++ replicate more None

  replicate_length : {A : Type 0} (i : ℕ) (x : A) → length (replicate i x) ≡ i
  replicate_length zero x = refl
  replicate_length (suc i) x = ap suc (replicate_length i x)

  wider_len : length wider ≡ length labels3
  wider_len =
      let none : Option (Label Hops) = None in
      omega (arith, length-append labels1 (replicate more none), ap length e3, length-append labels1 (replicate more (Some new)), replicate_length more none, replicate_length more (Some new))

  pub hop_widened : Widened (length labels3) labels1 (labels1 ++ replicate more None)
  hop_widened = Widened-more labels1 wider (length labels3) more refl wider_len

  hop_count : settled_count labels3 ≡ settled_count wider
  hop_count =
      let f : Option (Label Hops) → ℕ = λ o. cond (is_settled o) 1 0 in
      omega (arith, ap settled_count e3, sum_by-append f labels1 (replicate more (Some new)), sum_by-replicate f more (Some new), sum_by-append f labels1 (replicate more None), sum_by-replicate f more None)

  pub hop_relaxed : (row : List (ℕ × Hops)) → ((k : ℕ) → length labels ≤ k → k < length labels3 → Contains row (k, tt)) → Relaxed by_depth one_each n l row (labels1 ++ replicate more None) labels3
  hop_relaxed row fresh = record {
    len = sym wider_len;
    others = λ k m h. inl (stays_at k m (hop_widened.from k m h));
    from = λ k m h. elim (old_or_new k m h) as (λ _. HasLabel wider k m ⊎ ((c : Hops) × Contains row (k, c) × ComesFrom by_depth one_each n l c m)) [
      | inl q ↦ inl (hop_widened.stays k m q)
      | inr q ↦ inr (
        tt,
        fresh k q.0 (HasLabel-inside labels3 k m h),
        record {
          before = ap (λ (y : Label Hops). y.parent) q.1;
          deeper = ap (λ (y : Label Hops). y.depth) q.1;
          opened = ap (λ (y : Label Hops). y.settled) q.1;
          sum = let d : m.depth ≡ l.depth + 1 = ap (λ (y : Label Hops). y.depth) q.1 in omega (arith, ints, d);
        },
      )
    ];
    count = hop_count;
  }

  pub hop_covers : (row : List (ℕ × Hops)) → ((k : ℕ) (c : Hops) → Contains row (k, c) → k < length labels3) → (j : ℕ) (c : Hops) → Contains row (j, c) → Covers by_depth one_each l labels3 j c
  hop_covers row within j c h =
      let m = breadth_turn.full j (within j c h) in
      let d = depth_low j m.0 m.1 in
      (m.0, m.1, inr (omega (arith, ints, d)))

-- ---- the search

pub roots_below : {X : Type 0} (a b : ℕ) (p q : ℕ → X → Type 0) → Grows a b p q → (x : X) → StandsRoot (below a) q x ↔ StandsBelow a p x
roots_below a b p q g x = (
  λ h. let inside : h.0 < a = ltb-true h.0 a h.1 in (h.0, inside, g.back h.0 x inside h.2),
  λ h. (h.0, lt-ltb h.0 a h.1, g.stays h.0 x h.2),
)

module _ {X : Type 0} (step : X → ℤ → X → Type 0) (found : ℕ) (stands : ℕ → X → Type 0) (labels : Labels Hops) (e : labels ≡ replicate found (Some (reached_from 0 0))) (len : length labels ≡ found) where
  pub hop_search_start : ((k : ℕ) → k < found → (s : X) × stands k s) → IsSearch by_depth step (below found) stands labels
  hop_search_start begins = search_start by_depth step (below found) stands labels
      (λ k r. (reached_from 0 0, start_at found labels e len k (ltb-true k found r)))
      (λ k l h.
      let first = at_start found labels e len k l h in
      let inside : k < found = omega (arith, HasLabel-inside labels k l h, len) in
      record {
        opened = ap (λ (n : Label Hops). n.settled) first;
        flat = ap (λ (n : Label Hops). n.depth) first;
        nothing = ap (λ (n : Label Hops). pos n.depth) first;
        is_root = lt-ltb k found inside;
        here = begins k inside;
      })

  pub none_settled : (k : ℕ) (l : Label Hops) → HasLabel labels k l → ¬ (l.settled ≡ true)
  none_settled k l h t = true≢false (sym t ∙ ap (λ (n : Label Hops). n.settled) (at_start found labels e len k l h))

-- the number that is visited has a label of least depth
pub hop_least : (n : ℕ) (labels : Labels Hops) → IsBreadth n labels → (l : Label Hops) → HasLabel labels n l → IsLeast by_depth labels n l
hop_least n labels b l at = record { at = at; opened = b.opened n l at (omega arith); least = breadth_least n labels l b at }

module _ (n : ℕ) (l : Label Hops) (labels labels1 labels3 : Labels Hops) (b : IsBreadth n labels) (at : HasLabel labels n l)
    (e1 : labels1 ≡ slice_set labels n (Some (record l { settled = true }))) (more : ℕ) (e3 : labels3 ≡ labels1 ++ replicate more (Some (reached_from n (l.depth + 1))))
    {C : Type 0} (row : List (ℕ × C)) (found' : ℕ) (len3 : length labels3 ≡ found') (fresh : (k : ℕ) → length labels ≤ k → k < found' → (c : C) × Contains row (k, c)) where
  settles : Settles by_depth n l labels labels1
  settles = hop_settles n l labels labels1 labels3 b at e1 more e3

  widens : Widened found' labels1 (labels1 ++ replicate more None)
  widens = subst (λ (m : ℕ). Widened m labels1 (labels1 ++ replicate more None)) len3 (hop_widened n l labels labels1 labels3 b at e1 more e3)

  relaxes : Relaxed by_depth one_each n l (hops_of row) (labels1 ++ replicate more None) labels3
  relaxes = hop_relaxed n l labels labels1 labels3 b at e1 more e3 (hops_of row) (λ k le lt. let c = fresh k le (omega (arith, lt, len3)) in hops-contain row k c.0 c.1)

  pub hop_tree : IsTree labels → IsTree labels3
  hop_tree tree = IsTree-turn by_depth n l labels labels1 settles found' (labels1 ++ replicate more None) widens one_each (hops_of row) labels3 relaxes (IsTree-settle by_depth n l labels labels1 settles tree)

  -- what is settled now, was so or is the number that was visited
  pub hop_from : (j : ℕ) (m : Label Hops) → HasLabel labels3 j m → m.settled ≡ true → (j ≡ n) ⊎ HasLabel labels j m
  hop_from j m h t = elim (old_or_new n l labels labels1 labels3 b at e1 more e3 j m h) as (λ _. (j ≡ n) ⊎ HasLabel labels j m) [
    | inl q ↦ elim (was_label by_depth n l labels labels1 settles j m q) as (λ _. (j ≡ n) ⊎ HasLabel labels j m) [ inl r ↦ inl r.0 | inr r ↦ inr r.1 ]
    | inr q ↦ absurd (true≢false (sym t ∙ ap (λ (x : Label Hops). x.settled) q.1))
  ]

  module _ {X : Type 0} (step : X → ℤ → X → Type 0) (root : ℕ → Bool) (hop : IsHop step) (stands : ℕ → X → Type 0) (i : IsSearch by_depth step root stands labels) (tree : IsTree labels)
      (found : ℕ) (stands' : ℕ → X → Type 0) (grow : Grows found found' stands stands') (len : length labels ≡ found)
      (value : C → ℤ) (lists : (x : X) → stands n x → ListsSteps value step stands' x row) (within : (k : ℕ) (c : C) → Contains row (k, c) → k < found') where
    pub hop_turned : IsSearch by_depth step root stands' labels3
    hop_turned =
        turn by_depth step root (hop_positive step hop) stands labels i tree n l labels1 settles found found' stands' grow (omega (arith, len))
        one_each (hops_of row) (λ x h. hops-list value step hop stands' x row (lists x h)) (labels1 ++ replicate more None) labels3 widens relaxes
        (hop_covers n l labels labels1 labels3 b at e1 more e3 (hops_of row) (λ k c h. let q = hops-from row k h in omega (arith, within k q.0 q.1, len3)))
