-- A search by cost and estimate: what its labels say, and that a turn of its loop keeps it.
use Rattle.std.proofs.Common.{ℕ, zero, suc, ◌<◌, ◌≤◌, ◌≡◌, refl, sym, ◌∙◌, ap, subst, arith, Bool, true, false, true≢false, List, [], ◌∷◌, ◌++◌, length, inl, inr, ℤ, pos, Some, nat_eq}
use Rattle.std.specs.Prelude.{Contains, slice_get, IsPermutation, ◌≤ℤ◌, ◌+ℤ◌, ◌⊎◌}
use Rattle.std.specs.List.{AllZip}
use Rattle.std.proofs.lemmas.Int.{ints}
use Rattle.std.proofs.lemmas.List.Sorted.{Contains-permutation, IsPermutation-sym}
use Rattle.pf_base.specs.Walks.{end_of, NoRepeats}
use Rattle.pf_core.specs.declared.labels.Label.{Label}
use Rattle.pf_core.specs.Labels.{Labels, HasLabel, IsChain}
use Rattle.pf_core.specs.Steps.{GoesAlong, IsNonNegative, IsBestNumbered}
use Rattle.pf_core.specs.Numbered.{ListsSteps, Grows}
use Rattle.pf_base.proofs.ListLemmas.{int_dec, Contains-head, Contains-cases, none_in}
use Rattle.pf_core.proofs.LabelLemmas.{HasLabel-inside, label_is}
use Rattle.pf_core.proofs.FrontierLemmas.{walk_positive}
use Rattle.pf_informed.specs.Internal.Forest.{IsForest}
use Rattle.pf_informed.specs.Internal.Waiting.{Entry, IsWaiting, IsQueue, IsTaken, SumOverflows, SumsFit, Covers}
use Rattle.pf_informed.specs.Internal.Informed.{IsClosed, IsFoundFrom, IsInformed, Follows}
use Rattle.pf_core.proofs.ClimbLemmas.{chain_distinct}
use Rattle.pf_informed.proofs.EstimateLemmas.{estimate_at}
use Rattle.pf_informed.proofs.PathUp.{climb_walk, NoRepeats-reverse}
use Rattle.pf_informed.proofs.ForestLemmas.{label_from_zero}

module _ {X C : Type 0} (value : C → ℤ) (fits : ℤ → Type 0) (step : X → ℤ → X → Type 0) (passes : X → Bool) (p : IsNonNegative step) where
  module _ (estimates : List C) (stands : ℕ → X → Type 0) (labels : Labels C) (entries : List (Entry C)) (f : IsForest value labels) (found : ℕ) (i : IsInformed value fits estimates step passes stands labels entries found) where
    -- ---- walks by some of the steps
    module _ (go : X → ℤ → X → Type 0) (sub : (a : X) (z : ℤ) (b : X) → go a z b → step a z b) where
      -- the walk ends at a closed number
      pub record Ends (d : ℤ) (x : X) (w : List X) (t : ℤ) : Type 0 where
        pub number : ℕ
        pub label : Label C
        pub at : HasLabel labels number label
        pub closed : IsClosed value fits estimates step passes stands labels entries number label
        pub here : stands number (end_of x w)
        pub low : value label.cost ≤ℤ (d +ℤ t)

      -- a number on the walk waits, or is too dear
      pub record Stops (d : ℤ) (x : X) (w : List X) (t : ℤ) : Type 0 where
        pub before : List X
        pub after : List X
        pub is : w ≡ before ++ after
        pub up_to : ℤ
        pub rest : ℤ
        pub comes : GoesAlong go x before up_to
        pub goes_on : GoesAlong go (end_of x before) after rest
        pub sums : t ≡ up_to +ℤ rest
        pub number : ℕ
        pub here : stands number (end_of x before)
        pub why : ((l : Label C) × HasLabel labels number l × IsWaiting value estimates entries number l × (value l.cost ≤ℤ (d +ℤ up_to))) ⊎ ((s : ℤ) × (pos 0 ≤ℤ s) × (s ≤ℤ (d +ℤ up_to)) × SumOverflows value fits estimates number s)

      stops_here : (w : List X) (d : ℤ) (x : X) (t : ℤ) (k : ℕ) → stands k x → GoesAlong go x w t
          → ((l : Label C) × HasLabel labels k l × IsWaiting value estimates entries k l × (value l.cost ≤ℤ d)) ⊎ ((s : ℤ) × (pos 0 ≤ℤ s) × (s ≤ℤ d) × SumOverflows value fits estimates k s) → Stops d x w t
      stops_here w d x t k here walk why = record {
        before = [];
        after = w;
        is = refl;
        up_to = pos 0;
        rest = t;
        comes = refl;
        goes_on = walk;
        sums = omega (arith, ints);
        number = k;
        here = here;
        why = elim why as (λ _. ((l : Label C) × HasLabel labels k l × IsWaiting value estimates entries k l × (value l.cost ≤ℤ (d +ℤ pos 0))) ⊎ ((s : ℤ) × (pos 0 ≤ℤ s) × (s ≤ℤ (d +ℤ pos 0)) × SumOverflows value fits estimates k s)) [
          | inl a ↦ inl (a.0, a.1, a.2, omega (arith, ints, a.3))
          | inr a ↦ inr (a.0, a.1, omega (arith, ints, a.2), a.3)
        ];
      }

      -- what is so behind the first step
      stops_later : (w : List X) (d z u t : ℤ) (x b : X) → go x z b → t ≡ z +ℤ u → Stops (d +ℤ z) b w u → Stops d x (b ∷ w) t
      stops_later w d z u t x b first sum r = record {
        before = b ∷ r.before;
        after = r.after;
        is = ap (λ v. b ∷ v) r.is;
        up_to = z +ℤ r.up_to;
        rest = r.rest;
        comes = (z, r.up_to, first, r.comes, refl);
        goes_on = r.goes_on;
        sums = omega (arith, ints, r.sums, sum);
        number = r.number;
        here = r.here;
        why = elim r.why as (λ _. ((l : Label C) × HasLabel labels r.number l × IsWaiting value estimates entries r.number l × (value l.cost ≤ℤ (d +ℤ (z +ℤ r.up_to)))) ⊎ ((s : ℤ) × (pos 0 ≤ℤ s) × (s ≤ℤ (d +ℤ (z +ℤ r.up_to))) × SumOverflows value fits estimates r.number s)) [
          | inl a ↦ inl (a.0, a.1, a.2, omega (arith, ints, a.3))
          | inr a ↦ inr (a.0, a.1, omega (arith, ints, a.2), a.3)
        ];
      }

      pub frontier : (w : List X) (k : ℕ) (l : Label C) (d : ℤ) (x : X) (t : ℤ) → HasLabel labels k l → value l.cost ≤ℤ d → stands k x → GoesAlong go x w t → Ends d x w t ⊎ Stops d x w t
      frontier [] k l d x t h low here walk = elim (i.cut k l h) as (λ _. Ends d x [] t ⊎ Stops d x [] t) [
        | inl w ↦ inr (stops_here [] d x t k here walk (inl (l, h, w, low)))
        | inr c ↦ inl (record { number = k; label = l; at = h; closed = c; here = here; low = omega (arith, ints, walk, low) })
      ]
      frontier (b ∷ w) k l d x t h low here walk =
          let z = walk.0 in
          let u = walk.1 in
          elim (i.cut k l h) as (λ _. Ends d x (b ∷ w) t ⊎ Stops d x (b ∷ w) t) [
            | inl wait ↦ inr (stops_here (b ∷ w) d x t k here walk (inl (l, h, wait, low)))
            | inr c ↦
                let price : pos 0 ≤ℤ z = p.non_negative x z b (sub x z b walk.2) in
                let to = c.along x here z b (sub x z b walk.2) in
                elim to.2 as (λ _. Ends d x (b ∷ w) t ⊎ Stops d x (b ∷ w) t) [
                  | inl m ↦ elim (frontier w to.0 m.0 (d +ℤ z) b u m.1 (omega (arith, ints, m.2, low)) to.1 walk.3) as (λ _. Ends d x (b ∷ w) t ⊎ Stops d x (b ∷ w) t) [
                    | inl r ↦ inl (record { number = r.number; label = r.label; at = r.at; closed = r.closed; here = r.here; low = omega (arith, ints, r.low, walk.4) })
                    | inr r ↦ inr (stops_later w d z u t x b walk.2 walk.4 r)
                  ]
                  | inr dear ↦ inr (stops_later w d z u t x b walk.2 walk.4 (stops_here w (d +ℤ z) b u to.0 to.1 walk.3 (inr (value l.cost +ℤ z, omega (arith, ints, price, label_from_zero value labels f k l h), omega (arith, ints, low), dear))))
                ]
          ]

    -- ---- estimates that no walk to a goal undercuts
    module _ (est : X → ℤ) (start : X) (begins : stands 0 start) (within : X → Type 0) (all : (k : ℕ) (x : X) → stands k x → within x)
        (zero_up : (x : X) → within x → pos 0 ≤ℤ est x) (never_above : (x : X) → within x → (w : List X) (u : ℤ) → GoesAlong step x w u → passes (end_of x w) ≡ true → est x ≤ℤ u)
        (estimated : (k : ℕ) (x : X) (h : C) → stands k x → slice_get estimates k ≡ Some h → value h ≡ est x) (asked : (k : ℕ) (x : X) → stands k x → (h : C) × (slice_get estimates k ≡ Some h))
        (between : (x y z : ℤ) → fits x → fits z → x ≤ℤ y → y ≤ℤ z → fits y) (nothing : fits (pos 0)) where
      -- a waiting number on a walk to a goal, whose label and estimate are at most what the walk costs
      pub record Waits (t : ℤ) : Type 0 where
        pub number : ℕ
        pub label : Label C
        pub at : HasLabel labels number label
        pub waiting : IsWaiting value estimates entries number label
        pub estimate : C
        pub kept : slice_get estimates number ≡ Some estimate
        pub low : (value label.cost +ℤ value estimate) ≤ℤ t
        pub cheaper : value label.cost ≤ℤ t

      past : (k : ℕ) (x : X) (s t : ℤ) → stands k x → pos 0 ≤ℤ s → SumOverflows value fits estimates k s → (s +ℤ est x) ≤ℤ t → ¬ (fits t)
      past k x s t here from dear low fit = elim dear as (λ _. ⊥) [
        | inl n ↦ n (between (pos 0) s t nothing fit from (omega (arith, ints, low, zero_up x (all k x here))))
        | inr n ↦ let e = estimated k x n.0 here n.1 in n.2 (between (pos 0) (s +ℤ value n.0) t nothing fit (omega (arith, ints, from, e, zero_up x (all k x here))) (omega (arith, ints, e, low)))
      ]

      pub on_goal_walk : (w : List X) (t : ℤ) → GoesAlong step start w t → passes (end_of start w) ≡ true → Waits t ⊎ ¬ (fits t)
      on_goal_walk w t walk good =
          let z = f.first in
          elim (frontier step (λ a y b h. h) w 0 z.0 (pos 0) start t z.1 (omega (arith, ints, z.2)) begins walk) as (λ _. Waits t ⊎ ¬ (fits t)) [
            | inl r ↦ let c = r.closed in absurd (true≢false (sym good ∙ c.fails (end_of start w) r.here))
            | inr r ↦
                let y = end_of start r.before in
                let goal : passes (end_of y r.after) ≡ true = subst (λ (x : X). passes x ≡ true) (ap (end_of start) r.is ∙ end_split r.before start r.after) good in
                let low = never_above y (all r.number y r.here) r.after r.rest r.goes_on goal in
                let rest = walk_positive step p r.after y r.rest r.goes_on in
                elim r.why as (λ _. Waits t ⊎ ¬ (fits t)) [
                  | inl a ↦
                      let h = asked r.number y r.here in
                      inl (record {
                        number = r.number;
                        label = a.0;
                        at = a.1;
                        waiting = a.2;
                        estimate = h.0;
                        kept = h.1;
                        low = omega (arith, ints, a.3, r.sums, low, estimated r.number y h.0 r.here h.1);
                        cheaper = omega (arith, ints, a.3, r.sums, rest);
                      })
                  | inr a ↦ inr (past r.number y a.0 t r.here a.1 a.3 (omega (arith, ints, a.2, r.sums, low)))
                ]
          ]
        where
          end_split : (v : List X) (x : X) (u : List X) → end_of x (v ++ u) ≡ end_of (end_of x v) u
          end_split [] x u = refl
          end_split (b ∷ v) x u = end_split v b u

      -- no walk to a goal costs less than what is taken out
      pub goal_above : (number : ℕ) (cost : C) (entries' : List (Entry C)) → IsTaken value labels estimates number cost entries entries' → fits (value cost) → (x : X) → stands number x
          → (w : List X) (t : ℤ) → GoesAlong step start w t → passes (end_of start w) ≡ true → value cost ≤ℤ t
      goal_above number cost entries' taken fit x here w t walk good = elim (on_goal_walk w t walk good) as (λ _. value cost ≤ℤ t) [
        | inl r ↦ elim (taken.left r.number r.label r.at r.waiting) as (λ _. value cost ≤ℤ t) [
          | inl same ↦
              let e = ap (λ (m : Label C). value m.cost) (label_is labels number taken.label r.label taken.at (subst (λ (n : ℕ). HasLabel labels n r.label) same r.at)) in
              omega (arith, ints, e, taken.same, r.cheaper)
          | inr wait ↦
              let least = taken.least wait.0 wait.1 in
              let sum = wait.3 in
              let e = ap value (one_estimate (slice_get estimates r.number) sum.0 r.estimate sum.1 r.kept) in
              let own = estimated number x taken.estimate here taken.estimated in
              omega (arith, ints, least, sum.2, e, r.low, own, zero_up x (all number x here))
        ]
        | inr n ↦ elim (int_dec (value cost) t) as (λ _. value cost ≤ℤ t) [
          | inl le ↦ le
          | inr lt ↦ absurd (n (between (pos 0) t (value cost) nothing fit (walk_positive step p w start t walk) (omega (arith, ints, lt))))
        ]
      ]
        where
          one_estimate : (o : _) (a b : C) → o ≡ Some a → o ≡ Some b → a ≡ b
          one_estimate o a b h k = let e : Some a ≡ Some b = sym h ∙ k in cc

      -- where nothing waits, no walk to a goal fits
      pub no_goal_fits : ((k : ℕ) (l : Label C) → HasLabel labels k l → ¬ (IsWaiting value estimates entries k l)) → (w : List X) (t : ℤ) → GoesAlong step start w t → passes (end_of start w) ≡ true → ¬ (fits t)
      no_goal_fits none w t walk good = elim (on_goal_walk w t walk good) as (λ _. ¬ (fits t)) [ inl r ↦ absurd (none r.number r.label r.at r.waiting) | inr n ↦ n ]

    -- ---- where nothing waits and each number has a label, no walk leads to a goal
    pub no_goal : ((k : ℕ) (l : Label C) → HasLabel labels k l → ¬ (IsWaiting value estimates entries k l)) → ((j : ℕ) (y : X) → stands j y → (l : Label C) × HasLabel labels j l) → (w : List X) (x : X) (k : ℕ) (t : ℤ) → stands k x → GoesAlong step x w t → ¬ (passes (end_of x w) ≡ true)
    no_goal none all [] x k t here walk good =
        let l = all k x here in
        elim (i.cut k l.0 l.1) as (λ _. ⊥) [ inl w ↦ none k l.0 l.1 w | inr c ↦ true≢false (sym good ∙ c.fails x here) ]
    no_goal none all (b ∷ w) x k t here walk good =
        let l = all k x here in
        elim (i.cut k l.0 l.1) as (λ _. ⊥) [
          | inl wait ↦ none k l.0 l.1 wait
          | inr c ↦ let to = c.along x here walk.0 b walk.2 in no_goal none all w b to.0 walk.1 to.1 walk.3 good
        ]

    -- ---- the path to a number that is taken out
    module _ (starts : X → Type 0) (begins : (s : X) → starts s → stands 0 s) (someone : (s : X) × starts s) (number : ℕ) (label : Label C) (at : HasLabel labels number label) (numbers : List ℕ) (chain : IsChain labels number numbers) (good : (x : X) → stands number x → passes x ≡ true)
        (least : (s : X) → starts s → (w : List X) (t : ℤ) → GoesAlong step s w t → passes (end_of s w) ≡ true → value label.cost ≤ℤ t) where
      pub best_path : IsBestNumbered step passes starts stands numbers (value label.cost)
      best_path =
          let up = climb_walk labels value step starts stands f (someone.0, someone.1, begins someone.0 someone.1) i.linked chain.above number label at chain.climbs in
          let goal = good (end_of up.first up.nodes) up.here in
          let low : value label.cost ≤ℤ up.cost = least up.first up.is_start up.nodes up.cost up.goes goal in
          let same : up.cost ≡ value label.cost = omega (arith, ints, low, up.low) in
          record {
            first = up.first;
            is_start = up.is_start;
            nodes = up.nodes;
            path = record {
              numbered = subst (λ ks. AllZip stands ks (up.first ∷ up.nodes)) (sym chain.is) up.numbered;
              goes = subst (GoesAlong step up.first up.nodes) same up.goes;
              distinct = subst (NoRepeats nat_eq) (sym chain.is) (NoRepeats-reverse (number ∷ chain.above) (chain_distinct labels chain.above number chain.climbs));
            };
            good = goal;
            best = least;
          }

-- ---- a search begins at number 0 alone
module _ {C : Type 0} (value : C → ℤ) (first : Label C) (nothing : value first.cost ≡ pos 0) (flat : first.depth ≡ 0) where
  only_here : (k : ℕ) (l : Label C) → HasLabel (Some first ∷ []) k l → (k ≡ 0) × (first ≡ l)
  only_here zero l h = let e : Some (Some first) ≡ Some (Some l) = h in (refl, cc)
  only_here (suc k) l h = absurd (none_in k (Some l) h)

  pub forest_begin : IsForest value (Some first ∷ [])
  forest_begin = record {
    first = (first, refl, nothing);
    flat = λ k l h d. (only_here k l h).0;
    falls = λ k l h d. absurd (omega (arith, d, flat, ap (λ (m : Label C). m.depth) (only_here k l h).1));
    climbs = λ k l h. let o = only_here k l h in ([], (l, h, sym (ap (λ (m : Label C). m.depth) o.1) ∙ flat));
  }

  module _ (estimates : List C) (h : C) (known : slice_get estimates 0 ≡ Some h) (entries : List (Entry C)) (p : IsPermutation ((h, 0) ∷ []) entries) where
    abbrev entry : Entry C
    entry = (h, 0)

    one_entry : (e : Entry C) → Contains entries e → entry ≡ e
    one_entry e i = elim (Contains-cases [] entry e (Contains-permutation entries (entry ∷ []) e (IsPermutation-sym _ _ p) i)) as (λ _. entry ≡ e) [ inl s ↦ s | inr n ↦ absurd (omega (arith, n.1)) ]

    pub queue_begin : IsQueue value (Some first ∷ []) estimates entries
    queue_begin = record {
      labelled = λ e i. subst (λ (x : Entry C). (l : Label C) × HasLabel (Some first ∷ []) x.1 l × (v : C) × (slice_get estimates x.1 ≡ Some v) × ((value l.cost +ℤ value v) ≤ℤ value x.0)) (one_entry e i) (first, refl, h, known, omega (arith, ints, nothing));
    }

    pub sums_begin : (fits : ℤ → Type 0) → fits (value h) → SumsFit value fits (Some first ∷ []) estimates
    sums_begin fits fit k l v i at =
        let o = only_here k l i in
        let e : Some h ≡ Some v = sym known ∙ subst (λ (n : ℕ). slice_get estimates n ≡ Some v) o.0 at in
        let same : h ≡ v = cc in
        subst (λ (z : ℤ). fits z) (omega (arith, ints, nothing, ap value same, ap (λ (m : Label C). value m.cost) o.1)) fit

    pub informed_begin : {X : Type 0} (fits : ℤ → Type 0) (step : X → ℤ → X → Type 0) (passes : X → Bool) (stands : ℕ → X → Type 0) → IsInformed value fits estimates step passes stands (Some first ∷ []) entries 1
    informed_begin fits step passes stands = record {
      cut = λ k l i.
          let o = only_here k l i in
          inl (entry, Contains-permutation (entry ∷ []) entries entry p (Contains-head [] entry), sym o.0, (h, subst (λ (n : ℕ). slice_get estimates n ≡ Some h) (sym o.0) known, omega (arith, ints, nothing, ap (λ (m : Label C). value m.cost) o.1)));
      linked = λ k l m i d. absurd (omega (arith, d, flat, ap (λ (m : Label C). m.depth) (only_here k l i).1));
      found_by = λ j l. inl (first, subst (λ (n : ℕ). HasLabel (Some first ∷ []) n first) (let e : 0 ≡ j = omega (arith, l) in e) refl);
    }

-- estimates that were asked for stay
pub queue_kept : {C : Type 0} (value : C → ℤ) (labels : Labels C) (estimates estimates' : List C) (entries : List (Entry C)) → ((k : ℕ) (c : C) → slice_get estimates k ≡ Some c → slice_get estimates' k ≡ Some c) → IsQueue value labels estimates entries → IsQueue value labels estimates' entries
queue_kept value labels estimates estimates' entries kept q = record { labelled = λ e i. let r = q.labelled e i in (r.0, r.1, r.2, kept e.1 r.2 r.3, r.4) }

pub sums_kept : {C : Type 0} (value : C → ℤ) (fits : ℤ → Type 0) (labels : Labels C) (estimates estimates' : List C) → length labels ≤ length estimates → ((k : ℕ) (c : C) → slice_get estimates k ≡ Some c → slice_get estimates' k ≡ Some c) → SumsFit value fits labels estimates → SumsFit value fits labels estimates'
sums_kept value fits labels estimates estimates' few kept sums k l h at there =
    let was = estimate_at estimates k (omega (arith, few, HasLabel-inside labels k l at)) in
    let e : Some was.0 ≡ Some h = sym (kept k was.0 was.1) ∙ there in
    let same : was.0 ≡ h = cc in
    subst (λ (z : ℤ). fits z) (omega (arith, ints, ap value same)) (sums k l was.0 at was.1)

-- ---- a turn: a number is taken out, its node opened, and the steps from it taken
module _ {X C : Type 0} (value : C → ℤ) (fits : ℤ → Type 0) (step : X → ℤ → X → Type 0) (passes : X → Bool) (estimates estimates' : List C) (kept : (k : ℕ) (c : C) → slice_get estimates k ≡ Some c → slice_get estimates' k ≡ Some c)
    (found found' : ℕ) (stands stands' : ℕ → X → Type 0) (grow : Grows found found' stands stands') (labels labels' : Labels C) (inside : length labels ≤ found) (entries entries1 entries' : List (Entry C))
    (number : ℕ) (own : Label C) (own_at : HasLabel labels number own) (left : (k : ℕ) (l : Label C) → HasLabel labels k l → IsWaiting value estimates entries k l → (k ≡ number) ⊎ IsWaiting value estimates entries1 k l) (fails : (x : X) → stands number x → passes x ≡ false)
    (row : List (ℕ × C)) (lists : (x : X) → stands number x → ListsSteps value step stands' x row) (fresh : (j : ℕ) → found ≤ j → j < found' → (c : C) × Contains row (j, c)) (someone : (x : X) × stands number x)
    (follows : Follows value fits estimates' number own row labels labels' entries1 entries') (f : IsForest value labels) (i : IsInformed value fits estimates step passes stands labels entries found) where
  lower_now : (k : ℕ) (l : Label C) → HasLabel labels k l → (m : Label C) × HasLabel labels' k m × (value m.cost ≤ℤ value l.cost)
  lower_now k l h = let e = follows.relaxed in let w = follows.wide in e.lower k l (w.stays k l h)

  own_now : HasLabel labels' number own
  own_now = let e = follows.relaxed in let w = follows.wide in e.own own (w.stays number own own_at)

  before : (k : ℕ) (x : X) → k < length labels → stands' k x → stands k x
  before k x l h = grow.back k x (omega (arith, l, inside)) h

  covers_now : (j : ℕ) (t : ℤ) → Covers value fits estimates labels j t → Covers value fits estimates' labels' j t
  covers_now j t (inl c) = let r = lower_now j c.0 c.1 in inl (r.0, r.1, omega (arith, ints, r.2, c.2))
  covers_now j t (inr (inl c)) = inr (inl c)
  covers_now j t (inr (inr c)) = inr (inr (c.0, kept j c.0 c.1, c.2))

  closed_now : (k : ℕ) (l : Label C) → HasLabel labels k l → IsClosed value fits estimates step passes stands labels entries k l → IsClosed value fits estimates' step passes stands' labels' entries' k l
  closed_now k l h c = record {
    fails = λ x s. c.fails x (before k x (HasLabel-inside labels k l h) s);
    along = λ x s z y st. let r = c.along x (before k x (HasLabel-inside labels k l h) s) z y st in (r.0, grow.stays r.0 y r.1, covers_now r.0 (value l.cost +ℤ z) r.2);
  }

  opened : (l : Label C) → HasLabel labels number l → IsClosed value fits estimates' step passes stands' labels' entries' number l
  opened l h =
      let same : own ≡ l = label_is labels number own l own_at h in
      let there = HasLabel-inside labels number l h in
      let e = follows.relaxed in
      record {
        fails = λ x s. fails x (before number x there s);
        along = λ x s z y st.
            let was = before number x there s in
            let to = (lists x was).numbered z y st in
            let edge = (lists x was).complete z y to.0 st to.1 in
            let sum : (value own.cost +ℤ value edge.0) ≡ (value l.cost +ℤ z) = omega (arith, ints, ap (λ (m : Label C). value m.cost) same, edge.2) in
            (to.0, to.1, subst (Covers value fits estimates' labels' to.0) sum (e.covered to.0 edge.0 edge.1));
      }

  pub informed_opened : IsInformed value fits estimates' step passes stands' labels' entries' found'
  informed_opened = record {
    cut = λ k m h.
        let e = follows.relaxed in
        let w = follows.wide in
        elim (e.from k m h) as (λ _. IsWaiting value estimates' entries' k m ⊎ IsClosed value fits estimates' step passes stands' labels' entries' k m) [
          | inl old ↦
              let was = w.from k m old in
              elim (i.cut k m was) as (λ _. IsWaiting value estimates' entries' k m ⊎ IsClosed value fits estimates' step passes stands' labels' entries' k m) [
                | inl wait ↦ elim (left k m was wait) as (λ _. IsWaiting value estimates' entries' k m ⊎ IsClosed value fits estimates' step passes stands' labels' entries' k m) [
                  | inl same ↦ inr (subst (λ (n : ℕ). IsClosed value fits estimates' step passes stands' labels' entries' n m) (sym same) (opened m (subst (λ (n : ℕ). HasLabel labels n m) same was)))
                  | inr on ↦ let at = on.3 in inl (on.0, e.more on.0 on.1, on.2, (at.0, kept k at.0 at.1, at.2))
                ]
                | inr c ↦ inr (closed_now k m was c)
              ]
          | inr new ↦ inl new.4
        ];
    linked = λ k l m h deep at x s.
        let e = follows.relaxed in
        let w = follows.wide in
        elim (e.from k l h) as (λ _. (y : X) × (z : ℤ) × step x z y × stands' k y × ((value m.cost +ℤ z) ≤ℤ value l.cost)) [
          | inl old ↦
              let was = w.from k l old in
              let up = f.falls k l was deep in
              let now = lower_now l.parent up.0 up.1 in
              let same : now.0 ≡ m = label_is labels' l.parent now.0 m now.1 at in
              let r = i.linked k l up.0 was deep up.1 x (before l.parent x (HasLabel-inside labels l.parent up.0 up.1) s) in
              (r.0, r.1, r.2, grow.stays k r.0 r.3, omega (arith, ints, r.4, now.2, ap (λ (n : Label C). value n.cost) same))
          | inr new ↦
              let there : HasLabel labels' number m = subst (λ (n : ℕ). HasLabel labels' n m) new.2 at in
              let same : own ≡ m = label_is labels' number own m own_now there in
              let was = before number x (HasLabel-inside labels number own own_at) (subst (λ (n : ℕ). stands' n x) new.2 s) in
              let q = (lists x was).sound k new.0 new.1 in
              (q.0, value new.0, q.1, q.2, omega (arith, ints, new.3, ap (λ (n : Label C). value n.cost) same))
        ];
    found_by = λ j l. elim (order j found) as (λ _. ((m : Label C) × HasLabel labels' j m) ⊎ IsFoundFrom value fits estimates' step passes stands' labels' entries' j) [
      | inl old ↦ elim (i.found_by j old) as (λ _. ((m : Label C) × HasLabel labels' j m) ⊎ IsFoundFrom value fits estimates' step passes stands' labels' entries' j) [
        | inl m ↦ let now = lower_now j m.0 m.1 in inl (now.0, now.1)
        | inr r ↦
            let now = lower_now r.before r.label r.at in
            inr (record { node = r.node; here = grow.stays j r.node r.here; before = r.before; label = now.0; at = now.1; source = r.source; there = grow.stays r.before r.source r.there; price = r.price; edge = r.edge })
      ]
      | inr new ↦
          let c = fresh j new l in
          let q = (lists someone.0 someone.1).sound j c.0 c.1 in
          inr (record { node = q.0; here = q.2; before = number; label = own; at = own_now; source = someone.0; there = grow.stays number someone.0 someone.1; price = value c.0; edge = q.1 })
    ];
  }
    where
      order : (a b : ℕ) → (a < b) ⊎ (b ≤ a)
      order a b = elim (int_dec (pos b) (pos a)) as (λ _. (a < b) ⊎ (b ≤ a)) [ inl l ↦ inr (omega (arith, ints, l)) | inr l ↦ inl (omega (arith, ints, l)) ]
