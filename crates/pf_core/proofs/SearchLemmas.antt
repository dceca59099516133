-- A search by rising cost: what its labels say, and that a turn of its loop keeps it.
use Rattle.std.proofs.Common.{ℕ, ◌<◌, ◌≤◌, ◌≡◌, ◌≢◌, refl, sym, ◌∙◌, ap, subst, arith, Bool, true, false, List, ◌∷◌, length, inl, inr, ℤ, pos, true≢false, nat_eq, eq-eqb}
use Rattle.std.specs.Prelude.{Contains, ◌↔◌, ◌≤ℤ◌, ◌+ℤ◌, ◌⊎◌}
use Rattle.std.proofs.lemmas.Int.{ints}
use borrow.Author.Tests.{eqb-true}
use Rattle.pf_base.specs.Walks.{end_of}
use Rattle.pf_core.specs.declared.labels.Label.{Label}
use Rattle.pf_core.specs.Labels.{Labels, HasLabel, by_cost, cost_of, IsTree, IsChain, Relaxed, Covers, Settles, Widened, AllSettled}
use Rattle.pf_core.specs.Steps.{GoesAlong, IsNumberedPath, IsNonNegative, NoGoal, NoGoalBelow, IsBestNumbered}
use Rattle.pf_core.specs.Numbered.{ListsSteps, Grows}
use Rattle.pf_core.specs.Frontier.{IsFound}
use Rattle.pf_core.specs.Search.{SettledAt, WaitingAt, IsLow, IsLeast, IsSearch, StandsRoot}
use Rattle.pf_base.proofs.ListLemmas.{bool_dec, nat_dec}
use Rattle.pf_core.proofs.LabelLemmas.{HasLabel-inside, label_is, parent_labelled}
use Rattle.pf_core.proofs.FrontierLemmas.{frontier, walk_positive}
use Rattle.pf_core.proofs.PathLemmas.{PathUp, path_up, chain_path, was_label, settled_stays_1, settled_stays_3, AllZip-map}

-- nothing is found
pub Grows-refl : {X : Type 0} (n : ℕ) (stands : ℕ → X → Type 0) → Grows n n stands stands
Grows-refl n stands = record { more = omega arith; stays = λ k x s. s; back = λ k x l s. s }

pub Grows-trans : {X : Type 0} (a b c : ℕ) (p q r : ℕ → X → Type 0) → Grows a b p q → Grows b c q r → Grows a c p r
Grows-trans a b c p q r g h = record {
  more = omega (arith, g.more, h.more);
  stays = λ k x t. h.stays k x (g.stays k x t);
  back = λ k x l t. g.back k x l (h.back k x (omega (arith, g.more, l)) t);
}

-- nodes that were added and taken out again
pub Grows-back : {X : Type 0} (a b c : ℕ) (p q r : ℕ → X → Type 0) → Grows a b p q → Grows c b r q → c ≡ a → ((k : ℕ) (x : X) → p k x → k < a) → Grows a c p r
Grows-back a b c p q r g h same inside = record {
  more = omega (arith, same);
  stays = λ k x t. h.back k x (omega (arith, inside k x t, same)) (g.stays k x t);
  back = λ k x l t. g.back k x l (h.stays k x t);
}

pub path_grows : {X : Type 0} (step : X → ℤ → X → Type 0) (s : X) (a b : ℕ) (p q : ℕ → X → Type 0) → Grows a b p q → (numbers : List ℕ) (nodes : List X) (t : ℤ) → IsNumberedPath step p s numbers nodes t → IsNumberedPath step q s numbers nodes t
path_grows step s a b p q g numbers nodes t h = record { numbered = AllZip-map p q g.stays numbers (s ∷ nodes) h.numbered; goes = h.goes; distinct = h.distinct }

module _ {X C : Type 0} (measure : C → ℕ → ℤ) (step : X → ℤ → X → Type 0) (root : ℕ → Bool) where
  pub found_at : (stands : ℕ → X → Type 0) (labels : Labels C) (k : ℕ) (l : Label C) → HasLabel labels k l → IsFound step stands (SettledAt measure labels) (WaitingAt measure labels) k (cost_of measure l)
  found_at stands labels k l h = elim (bool_dec l.settled) as (λ _. SettledAt measure labels k (cost_of measure l) ⊎ WaitingAt measure labels k (cost_of measure l)) [ inl e ↦ inl (l, h, e, refl) | inr e ↦ inr (l, h, e, refl) ]

  -- an open label at which a path begins
  pub record IsFirst (stands : ℕ → X → Type 0) (k : ℕ) (l : Label C) : Type 0 where
    pub opened : l.settled ≡ false
    pub flat : l.depth ≡ 0
    pub nothing : cost_of measure l ≡ pos 0
    pub is_root : root k ≡ true
    pub here : (s : X) × stands k s

  -- a search begins with the roots alone
  pub search_start : (stands : ℕ → X → Type 0) (labels : Labels C) → ((k : ℕ) → root k ≡ true → (l : Label C) × HasLabel labels k l) → ((k : ℕ) (l : Label C) → HasLabel labels k l → IsFirst stands k l) → IsSearch measure step root stands labels
  search_start stands labels all only = record {
    start = λ k is. let l = all k is in let f = only k l.0 l.1 in (l.0, l.1, omega (arith, ints, f.nothing));
    rooted = λ k l h d. let f = only k l h in (f.is_root, f.here, f.nothing);
    linked = λ k l m h d. let f = only k l h in absurd (omega (arith, d, f.flat));
    cut = record { along = λ k d x a. let f = only k a.0 a.1 in absurd (true≢false (sym a.2 ∙ f.opened)) };
    low = λ k j l m h t. let f = only k l h in absurd (true≢false (sym t ∙ f.opened));
  }

  module _ (p : IsNonNegative step) (stands : ℕ → X → Type 0) (labels : Labels C) (i : IsSearch measure step root stands labels) where
    abbrev Starts : X → Type 0
    Starts = StandsRoot root stands

    module _ (passes : X → Bool) (failed : (k : ℕ) (l : Label C) (x : X) → HasLabel labels k l → l.settled ≡ true → stands k x → passes x ≡ false) where
      -- no walk to a goal costs less than the least open label
      pub goal_above : (c : ℤ) → IsLow measure labels c → NoGoalBelow step passes (StandsRoot root stands) c
      goal_above c least s is w t walk good =
          let b = i.start is.0 is.1 in
          elim (frontier step stands (SettledAt measure labels) (WaitingAt measure labels) i.cut w is.0 (cost_of measure b.0) s t (found_at stands labels is.0 b.0 b.1) is.2 walk) as (λ _. c ≤ℤ t) [
            | inl r ↦ let q = r.is_settled in absurd (true≢false (sym good ∙ failed r.number q.0 (end_of s w) q.1 q.2 r.here))
            | inr r ↦ let q = r.is_waiting in omega (arith, ints, least r.number q.0 q.1 q.2, q.3, r.low, b.2, r.sums, walk_positive step p r.after (end_of s r.before) r.rest r.goes_on)
          ]

      -- where all is settled, no walk leads to a goal
      pub no_goal : AllSettled labels → NoGoal step passes (StandsRoot root stands)
      no_goal all s is w t walk good =
          let b = i.start is.0 is.1 in
          elim (frontier step stands (SettledAt measure labels) (WaitingAt measure labels) i.cut w is.0 (cost_of measure b.0) s t (found_at stands labels is.0 b.0 b.1) is.2 walk) as (λ _. ⊥) [
            | inl r ↦ let q = r.is_settled in true≢false (sym good ∙ failed r.number q.0 (end_of s w) q.1 q.2 r.here)
            | inr r ↦ let q = r.is_waiting in true≢false (sym (all r.number q.0 q.1) ∙ q.2)
          ]

    pub rooted : (k : ℕ) (l : Label C) → HasLabel labels k l → l.depth ≡ 0 → (s : X) × StandsRoot root stands s × stands k s × (cost_of measure l ≡ pos 0)
    rooted k l h d = let r = i.rooted k l h d in (r.1.0, (k, r.0, r.1.1), r.1.1, r.2)

    module _ (tree : IsTree labels) (k : ℕ) (l : Label C) (z : IsLeast measure labels k l) where
      abbrev Up : List ℕ → Type 0
      Up = PathUp labels tree measure step Starts stands rooted i.linked k l

      pub least_path : (numbers : List ℕ) × Up numbers
      least_path = path_up labels tree measure step Starts stands rooted i.linked k l z.at

      -- a goal of least cost is best, along the chain of its parents
      pub best : (passes : X → Bool) → ((k : ℕ) (l : Label C) (x : X) → HasLabel labels k l → l.settled ≡ true → stands k x → passes x ≡ false) → (numbers : List ℕ) → IsChain labels k numbers → ((x : X) → stands k x → passes x ≡ true)
          → IsBestNumbered step passes (StandsRoot root stands) stands numbers (cost_of measure l)
      best passes failed numbers c good =
          let up = chain_path labels tree measure step Starts stands rooted i.linked numbers k l z.at c in
          record { first = up.first; is_start = up.is_start; nodes = up.nodes; path = up.path; good = good (end_of up.first up.nodes) up.here; best = goal_above passes failed (cost_of measure l) z.least }

      -- no walk to a node of least cost costs less than its label, where no two numbers stand for one node
      pub cheapest : ((a b : ℕ) (x : X) → stands a x → stands b x → a ≡ b) → (s : X) → StandsRoot root stands s → (w : List X) (u : ℤ) → GoesAlong step s w u → stands k (end_of s w) → cost_of measure l ≤ℤ u
      cheapest one s is w u walk here =
          let b = i.start is.0 is.1 in
          elim (frontier step stands (SettledAt measure labels) (WaitingAt measure labels) i.cut w is.0 (cost_of measure b.0) s u (found_at stands labels is.0 b.0 b.1) is.2 walk) as (λ _. cost_of measure l ≤ℤ u) [
            | inl r ↦ let q = r.is_settled in
                let same : r.number ≡ k = one r.number k (end_of s w) r.here here in
                absurd (true≢false (sym q.2 ∙ ap (λ (m : Label C). m.settled) (label_is labels k q.0 l (subst (λ (n : ℕ). HasLabel labels n q.0) same q.1) z.at) ∙ z.opened))
            | inr r ↦ let q = r.is_waiting in omega (arith, ints, z.least r.number q.0 q.1 q.2, q.3, r.low, b.2, r.sums, walk_positive step p r.after (end_of s r.before) r.rest r.goes_on)
          ]

    module _ (tree : IsTree labels) (k : ℕ) (l : Label C) (labels1 : Labels C) (z : Settles measure k l labels labels1) where
      abbrev picked : IsLeast measure labels k l
      picked = record { at = z.was; opened = z.opened; least = z.least }

      module _ (found found' : ℕ) (stands' : ℕ → X → Type 0) (grow : Grows found found' stands stands') (inside : length labels ≤ found) (worth : C → ℤ) (row : List (ℕ × C)) (lists : (x : X) → stands k x → ListsSteps worth step stands' x row)
          (labels2 labels3 : Labels C) (wide : Widened found' labels1 labels2) (rel : Relaxed measure worth k l row labels2 labels3) (cov : (j : ℕ) (d : C) → Contains row (j, d) → Covers measure worth l labels3 j d) where
        abbrev done : Label C
        done = record l { settled = true }

        within : (j : ℕ) (m : Label C) → HasLabel labels j m → j < found
        within j m h = omega (arith, HasLabel-inside labels j m h, inside)

        price_positive : (j : ℕ) (d : C) → Contains row (j, d) → pos 0 ≤ℤ worth d
        price_positive j d h = let r = (least_path tree k l picked).1 in let q = (lists (end_of r.first r.nodes) r.here).sound j d h in p.non_negative (end_of r.first r.nodes) (worth d) q.0 q.1

        -- a label before the row was read
        before : (j : ℕ) (m : Label C) → HasLabel labels2 j m → ((j ≡ k) × (m ≡ record l { settled = true })) ⊎ ((j ≢ k) × HasLabel labels j m)
        before j m h = was_label measure k l labels labels1 z j m (wide.from j m h)

        done_stays : HasLabel labels3 k (record l { settled = true })
        done_stays = settled_stays_3 measure k l labels labels1 z found' labels2 wide worth row labels3 rel k done z.now refl

        old_stays : (j : ℕ) (m : Label C) → HasLabel labels j m → m.settled ≡ true → HasLabel labels3 j m
        old_stays j m h t = settled_stays_3 measure k l labels labels1 z found' labels2 wide worth row labels3 rel j m (settled_stays_1 measure k l labels labels1 z j m h t) t

        -- the settled labels now
        settled_now : (j : ℕ) (m : Label C) → HasLabel labels3 j m → m.settled ≡ true → ((j ≡ k) × (m ≡ record l { settled = true })) ⊎ HasLabel labels j m
        settled_now j m h t = elim (rel.from j m h) as (λ _. ((j ≡ k) × (m ≡ record l { settled = true })) ⊎ HasLabel labels j m) [
          | inl o ↦ elim (before j m o) as (λ _. ((j ≡ k) × (m ≡ record l { settled = true })) ⊎ HasLabel labels j m) [ inl q ↦ inl q | inr q ↦ inr q.1 ]
          | inr o ↦ let from = o.2 in absurd (true≢false (sym t ∙ from.opened))
        ]

        settled_low : (j : ℕ) (m : Label C) → HasLabel labels3 j m → m.settled ≡ true → cost_of measure m ≤ℤ cost_of measure l
        settled_low j m h t = elim (settled_now j m h t) as (λ _. cost_of measure m ≤ℤ cost_of measure l) [
          | inl q ↦ subst (λ (n : Label C). cost_of measure n ≤ℤ cost_of measure l) (sym q.1) (omega (arith, ints))
          | inr q ↦ i.low j k m l q t z.was z.opened
        ]

        open_high : (j : ℕ) (m : Label C) → HasLabel labels3 j m → m.settled ≡ false → cost_of measure l ≤ℤ cost_of measure m
        open_high j m h t = elim (rel.from j m h) as (λ _. cost_of measure l ≤ℤ cost_of measure m) [
          | inl o ↦ elim (before j m o) as (λ _. cost_of measure l ≤ℤ cost_of measure m) [
            | inl q ↦ absurd (true≢false (sym (ap (λ (n : Label C). n.settled) q.1) ∙ t))
            | inr q ↦ z.least j m q.1 t
          ]
          | inr o ↦ let from = o.2 in omega (arith, ints, from.sum, price_positive j o.0 o.1)
        ]

        -- the end of a step has a label that costs at most one step more
        covered : (j : ℕ) (d : C) → Contains row (j, d) → (m : Label C) × HasLabel labels3 j m × (cost_of measure m ≤ℤ (cost_of measure l +ℤ worth d))
        covered j d h = let m = cov j d h in (
          m.0,
          m.1,
          elim m.2 as (λ _. cost_of measure m.0 ≤ℤ (cost_of measure l +ℤ worth d)) [
            | inl t ↦ omega (arith, ints, settled_low j m.0 m.1 t, price_positive j d h)
            | inr low ↦ low
          ],
        )

        -- a label that was there is there still, or a lower one
        label_now : (j : ℕ) (n : Label C) → HasLabel labels j n → (m : Label C) × HasLabel labels3 j m × (cost_of measure m ≤ℤ cost_of measure n)
        label_now j n h = elim (bool_dec n.settled) as (λ _. (m : Label C) × HasLabel labels3 j m × (cost_of measure m ≤ℤ cost_of measure n)) [
          | inl t ↦ (n, old_stays j n h t, omega (arith, ints))
          | inr o ↦ label_open j n h o
        ]
          where
            label_same : (j : ℕ) (n : Label C) → HasLabel labels2 j n → (m : Label C) × HasLabel labels3 j m × (cost_of measure m ≤ℤ cost_of measure n)
            label_same j n h = elim (rel.others j n h) as (λ _. (m : Label C) × HasLabel labels3 j m × (cost_of measure m ≤ℤ cost_of measure n)) [
              | inl o ↦ (n, o, omega (arith, ints))
              | inr o ↦ let r = covered j o.1.0 o.1.1 in (r.0, r.1, omega (arith, ints, r.2, o.1.2))
            ]

            label_open : (j : ℕ) (n : Label C) → HasLabel labels j n → n.settled ≡ false → (m : Label C) × HasLabel labels3 j m × (cost_of measure m ≤ℤ cost_of measure n)
            label_open j n h o = elim (nat_dec j k) as (λ _. (m : Label C) × HasLabel labels3 j m × (cost_of measure m ≤ℤ cost_of measure n)) [
              | inl e ↦
                  let same = label_is labels k n l (subst (λ (i : ℕ). HasLabel labels i n) e h) z.was in
                  (done, subst (λ (i : ℕ). HasLabel labels3 i done) (sym e) done_stays, subst (λ (m : Label C). cost_of measure l ≤ℤ cost_of measure m) (sym same) (omega (arith, ints)))
              | inr e ↦ label_same j n (wide.stays j n (z.others j n e h))
            ]

        -- the parent of an old label, and the step to it
        old_link : (j : ℕ) (m n : Label C) → HasLabel labels j m → 0 < m.depth → HasLabel labels3 m.parent n → (x : X) → stands' m.parent x → (y : X) × (v : ℤ) × step x v y × stands' j y × (cost_of measure m ≡ cost_of measure n +ℤ v)
        old_link j m n h deep at x here =
            let q = parent_labelled labels tree j m h deep in
            let same = label_is labels3 m.parent q.0 n (old_stays m.parent q.0 q.1 q.2) at in
            let r = i.linked j m q.0 h deep q.1 x (grow.back m.parent x (within m.parent q.0 q.1) here) in
            (r.0, r.1, r.2, grow.stays j r.0 r.3, subst (λ (a : Label C). cost_of measure m ≡ cost_of measure a +ℤ r.1) same r.4)

        -- the search after a turn
        pub turn : IsSearch measure step root stands' labels3
        turn = record {
          start = λ j is. let b = i.start j is in let r = label_now j b.0 b.1 in (r.0, r.1, omega (arith, ints, r.2, b.2));
          rooted = λ j m h flat. elim (rel.from j m h) as (λ _. (root j ≡ true) × ((s : X) × stands' j s) × (cost_of measure m ≡ pos 0)) [
            | inl o ↦ elim (before j m o) as (λ _. (root j ≡ true) × ((s : X) × stands' j s) × (cost_of measure m ≡ pos 0)) [
              | inl q ↦
                  let r = i.rooted k l z.was (sym (ap (λ (n : Label C). n.depth) q.1) ∙ flat) in
                  (ap root q.0 ∙ r.0, (r.1.0, subst (λ (n : ℕ). stands' n r.1.0) (sym q.0) (grow.stays k r.1.0 r.1.1)), ap (cost_of measure) q.1 ∙ r.2)
              | inr q ↦ let r = i.rooted j m q.1 flat in (r.0, (r.1.0, grow.stays j r.1.0 r.1.1), r.2)
            ]
            | inr o ↦ let from = o.2 in absurd (omega (arith, from.deeper, flat))
          ];
          linked = λ j m n h deep at x here. elim (rel.from j m h) as (λ _. (y : X) × (v : ℤ) × step x v y × stands' j y × (cost_of measure m ≡ cost_of measure n +ℤ v)) [
            | inl o ↦ elim (before j m o) as (λ _. (y : X) × (v : ℤ) × step x v y × stands' j y × (cost_of measure m ≡ cost_of measure n +ℤ v)) [
              | inl q ↦
                  let back = sym q.1 in
                  let r = old_link k l n z.was (subst (λ (a : Label C). 0 < a.depth) q.1 deep) (subst (λ (a : Label C). HasLabel labels3 a.parent n) q.1 at) x (subst (λ (a : Label C). stands' a.parent x) q.1 here) in
                  (r.0, r.1, r.2, subst (λ (i : ℕ). stands' i r.0) (sym q.0) r.3, subst (λ (a : Label C). cost_of measure a ≡ cost_of measure n +ℤ r.1) back r.4)
              | inr q ↦ old_link j m n q.1 deep at x here
            ]
            | inr o ↦
                let from = o.2 in
                let same : n ≡ done = label_is labels3 k n done (subst (λ (i : ℕ). HasLabel labels3 i n) from.before at) done_stays in
                let was : stands k x = grow.back k x (within k l z.was) (subst (λ (i : ℕ). stands' i x) from.before here) in
                let q = (lists x was).sound j o.0 o.1 in
                (q.0, worth o.0, q.1, q.2, subst (λ (a : Label C). cost_of measure m ≡ cost_of measure a +ℤ worth o.0) (sym same) from.sum)
          ];
          cut = record {
            along = λ j d x at here v y st. elim (settled_now j at.0 at.1 at.2) as (λ _. (b : ℕ) × (e : ℤ) × IsFound step stands' (SettledAt measure labels3) (WaitingAt measure labels3) b e × stands' b y × (e ≤ℤ (d +ℤ v))) [
              | inl q ↦
                  let was : stands k x = grow.back k x (within k l z.was) (subst (λ (n : ℕ). stands' n x) q.0 here) in
                  let to = (lists x was).numbered v y st in
                  let edge = (lists x was).complete v y to.0 st to.1 in
                  let r = covered to.0 edge.0 edge.1 in
                  let same : cost_of measure at.0 ≡ cost_of measure l = ap (λ (n : Label C). cost_of measure n) q.1 in
                  (to.0, cost_of measure r.0, found_at stands' labels3 to.0 r.0 r.1, to.1, omega (arith, ints, r.2, edge.2, at.3, same))
              | inr q ↦
                  let was : stands j x = grow.back j x (within j at.0 q) here in
                  let to = i.cut.along j d x (at.0, q, at.2, at.3) was v y st in
                  let l : (l : Label C) × HasLabel labels to.0 l × (cost_of measure l ≡ to.1) = elim to.2 as (λ _. (l : Label C) × HasLabel labels to.0 l × (cost_of measure l ≡ to.1)) [ inl f ↦ (f.0, f.1, f.3) | inr f ↦ (f.0, f.1, f.3) ] in
                  let r = label_now to.0 l.0 l.1 in
                  (to.0, cost_of measure r.0, found_at stands' labels3 to.0 r.0 r.1, grow.stays to.0 y to.3, omega (arith, ints, r.2, l.2, to.4))
            ];
          };
          low = λ a b n m h t g u. omega (arith, ints, settled_low a n h t, open_high b m g u);
        }

-- a search is one where nodes are only added too
pub search_grows : {X C : Type 0} (measure : C → ℕ → ℤ) (step : X → ℤ → X → Type 0) (root : ℕ → Bool) (a b : ℕ) (p q : ℕ → X → Type 0) → Grows a b p q → (labels : Labels C) → length labels ≤ a → IsSearch measure step root p labels → IsSearch measure step root q labels
search_grows measure step root a b p q g labels len i = record {
  start = i.start;
  rooted = λ k l h d. let r = i.rooted k l h d in (r.0, (r.1.0, g.stays k r.1.0 r.1.1), r.2);
  linked = λ k l m h d at x here. let r = i.linked k l m h d at x (g.back l.parent x (omega (arith, HasLabel-inside labels l.parent m at, len)) here) in (r.0, r.1, r.2, g.stays k r.0 r.3, r.4);
  cut = record {
    along = λ k d x s here z y st. let r = i.cut.along k d x s (g.back k x (omega (arith, HasLabel-inside labels k s.0 s.1, len)) here) z y st in (r.0, r.1, r.2, g.stays r.0 y r.3, r.4);
  };
  low = i.low;
}

-- one number alone is a root
abbrev pub only_root : ℕ → ℕ → Bool
only_root start k = nat_eq k start

module _ {X : Type 0} (start : ℕ) where
  pub one_root : (a b : ℕ) (p q : ℕ → X → Type 0) → Grows a b p q → start < a → (x : X) → StandsRoot (only_root start) q x ↔ p start x
  one_root a b p q g inside x = (
    λ h. g.back start x inside (subst (λ (k : ℕ). q k x) (eqb-true h.0 start h.1) h.2),
    λ h. (start, eq-eqb start start refl, g.stays start x h),
  )

  module _ {C : Type 0} (value : C → ℤ) (step : X → ℤ → X → Type 0) (stands : ℕ → X → Type 0) (here : (s : X) × stands start s) (labels : Labels C) (first : Label C) (there : HasLabel labels start first)
      (only : (k : ℕ) (l : Label C) → HasLabel labels k l → (k ≡ start) × (l ≡ first)) (opened : first.settled ≡ false) where
    pub start_alone : first.depth ≡ 0 → value first.cost ≡ pos 0 → IsSearch (by_cost value) step (only_root start) stands labels
    start_alone flat nothing = search_start (by_cost value) step (only_root start) stands labels
        (λ k e. (first, subst (λ (n : ℕ). HasLabel labels n first) (sym (eqb-true k start e)) there))
        (λ k l h. let o = only k l h in record {
          opened = ap (λ (m : Label C). m.settled) o.1 ∙ opened;
          flat = ap (λ (m : Label C). m.depth) o.1 ∙ flat;
          nothing = ap (λ (m : Label C). value m.cost) o.1 ∙ nothing;
          is_root = eq-eqb k start o.0;
          here = (here.0, subst (λ (n : ℕ). stands n here.0) (sym o.0) here.1);
        })

    pub none_settled : (k : ℕ) (l : Label C) → HasLabel labels k l → ¬ (l.settled ≡ true)
    none_settled k l h t = true≢false (sym t ∙ ap (λ (m : Label C). m.settled) (only k l h).1 ∙ opened)

-- what is settled after a turn fails, where the number that was settled does
pub failed_turned : {X C : Type 0} (passes : X → Bool) (a b : ℕ) (p q : ℕ → X → Type 0) → Grows a b p q → (labels labels' : Labels C) → length labels ≤ a → (n : ℕ) → n < a → ((j : ℕ) (m : Label C) → HasLabel labels' j m → m.settled ≡ true → (j ≡ n) ⊎ HasLabel labels j m) → ((x : X) → p n x → passes x ≡ false)
    → ((k : ℕ) (m : Label C) (x : X) → HasLabel labels k m → m.settled ≡ true → p k x → passes x ≡ false) → (k : ℕ) (m : Label C) (x : X) → HasLabel labels' k m → m.settled ≡ true → q k x → passes x ≡ false
failed_turned passes a b p q g labels labels' len n inside from fails failed k m x h s here = elim (from k m h s) as (λ _. passes x ≡ false) [
  | inl e ↦ fails x (g.back n x inside (subst (λ (i : ℕ). q i x) e here))
  | inr o ↦ failed k m x o s (g.back k x (omega (arith, HasLabel-inside labels k m o, len)) here)
]

-- a best path stays one where nodes are only added, and starts are said in another way
pub best_grows : {X : Type 0} (step : X → ℤ → X → Type 0) (passes : X → Bool) (starts starts' : X → Type 0) → ((x : X) → starts x ↔ starts' x) → (a b : ℕ) (p q : ℕ → X → Type 0) → Grows a b p q → (numbers : List ℕ) (t : ℤ) → IsBestNumbered step passes starts p numbers t → IsBestNumbered step passes starts' q numbers t
best_grows step passes starts starts' same a b p q g numbers t h = record { first = h.first; is_start = (same h.first).0 h.is_start; nodes = h.nodes; path = path_grows step h.first a b p q g numbers h.nodes t h.path; good = h.good; best = λ s is. h.best s ((same s).1 is) }
