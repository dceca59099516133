-- Searches by rising cost from both ends: what a turn of one side keeps, and that no walk undercuts the best meeting.
use Rattle.std.proofs.Common.{◌≡◌, ℕ, ◌<◌, Bool, true, false, Option, Some, None, List, [], ◌∷◌, ◌∙◌, length, refl, sym, ap, subst, arith, inl, inr, ℤ, pos, true≢false, nat_eq, eq-eqb}
use Rattle.std.specs.Prelude.{◌⊎◌, ◌↔◌, ◌≤ℤ◌, ◌+ℤ◌, MatchOption}
use borrow.Author.Tests.{eqb-true}
use Rattle.std.specs.Cmp.{IsEquivalence}
use Rattle.std.proofs.lemmas.Int.{ints}
use Rattle.pf_base.specs.Costs.{LiesBetween}
use Rattle.pf_base.specs.Walks.{HasNode, end_of}
use Rattle.pf_base.specs.Edges.{InReach, CostOverflows}
use Rattle.pf_core.specs.declared.labels.Label.{Label}
use Rattle.pf_core.specs.Labels.{Labels, HasLabel, by_cost, AllSettled}
use Rattle.pf_core.specs.Numbered.{Grows}
use Rattle.pf_core.specs.Steps.{GoesAlong, IsNonNegative}
use Rattle.pf_two_sided.specs.Internal.Mirrors.{IsReached}
use Rattle.pf_core.specs.Nodes.{NodeGraph, StandsFor, IsStep}
use Rattle.pf_core.specs.Frontier.{IsFound}
use Rattle.pf_core.specs.Search.{IsLow, IsLeast, Turned, StandsRoot, StepOverflows, SettledAt, WaitingAt}
use Rattle.pf_base.proofs.ListLemmas.{bool_dec, int_dec}
use Rattle.pf_core.proofs.LabelLemmas.{HasLabel-inside}
use Rattle.pf_core.proofs.FrontierLemmas.{frontier, walk_positive}
use Rattle.pf_core.proofs.PathLemmas.{path_up}
use Rattle.pf_two_sided.proofs.MirrorLemmas.{walk_back, end_append}
use Rattle.pf_core.proofs.SearchLemmas.{found_at, rooted}
use Rattle.pf_core.proofs.TurnLemmas.{numbered_overflows}
use Rattle.pf_core.proofs.NodeLemmas.{eq-sym, eq-trans, StandsFor-same, InReach-same, InReach-after}
use Rattle.pf_core.proofs.WalkLemmas.{no_negative, walk_of_goes, cost_overflows}
use Rattle.pf_both_ends.specs.declared.dijkstra.Meeting.{Meeting}
use Rattle.pf_both_ends.specs.BothEnds.{IsCostMirror}
use Rattle.pf_both_ends.specs.Internal.BothEnds.{from_one, bound, IsMeeting, NoneBelowAt, IsHalf, IsPair, NoWalkAcross, NoWalkAcrossBelow}

-- a sum of costs from 0 up that does not fit is more than the greatest cost
pub past_greatest : (fits : ℤ → Type 0) (least greatest : ℤ) → ((z : ℤ) → fits z ↔ LiesBetween least greatest z) → (a b : ℤ) → fits a → pos 0 ≤ℤ b → ¬ (fits (a +ℤ b)) → (greatest +ℤ pos 1) ≤ℤ (a +ℤ b)
past_greatest fits least greatest range a b f low never = elim (int_dec (a +ℤ b) greatest) as (λ _. (greatest +ℤ pos 1) ≤ℤ (a +ℤ b)) [
  | inl le ↦ let q = (range a).0 f in absurd (never ((range (a +ℤ b)).1 (omega (arith, ints, q.0, low), le)))
  | inr lt ↦ omega (arith, ints, lt)
]

module _ {N C : Type 0} (eq : N → N → Bool) (laws : IsEquivalence eq) (value : C → ℤ) (fits : ℤ → Type 0) where
  -- nodes that one number stands for are the same
  pub one_node : (keys : List N) (k : ℕ) (x y : N) → StandsFor eq keys k x → StandsFor eq keys k y → eq x y ≡ true
  one_node keys k x y a b =
      let e : Some a.0 ≡ Some b.0 = sym a.1 ∙ b.1 in
      let f : a.0 ≡ b.0 = cc in
      eq-trans eq laws x a.0 y (eq-sym eq laws a.0 x a.2) (subst (λ m. eq m y ≡ true) (sym f) b.2)

  -- one search
  module _ (edges : N → List (N × ℤ)) (start : N) (keys : List N) (labels : Labels C) (half : IsHalf eq value fits edges start keys labels) where
    abbrev graph : NodeGraph N
    graph = from_one start edges

    abbrev step : N → ℤ → N → Type 0
    step = IsStep eq (from_one start edges)

    abbrev root : ℕ → Bool
    root k = nat_eq k 0

    abbrev stands : ℕ → N → Type 0
    stands = StandsFor eq keys

    pub positive : IsNonNegative (IsStep eq (from_one start edges))
    positive = no_negative eq laws (from_one start edges) half.alike half.costs

    pub start_all : (a : N) → HasNode eq (start ∷ []) a → StandsRoot (λ k. nat_eq k 0) (StandsFor eq keys) a
    start_all a (inl e) = (0, eq-eqb 0 0 refl, (half.begins a).1 e)
    start_all a (inr h) = absurd h

    pub start_only : (a : N) → StandsRoot (λ k. nat_eq k 0) (StandsFor eq keys) a → HasNode eq (start ∷ []) a
    start_only a h = inl ((half.begins a).0 (subst (λ (k : ℕ). StandsFor eq keys k a) (eqb-true h.0 0 h.1) h.2))

    -- what a walk from the start reaches is in reach
    pub in_reach : (x : N) → IsReached (IsStep eq (from_one start edges)) (λ y. eq start y ≡ true) x → InReach eq edges (start ∷ []) x
    in_reach x r = subst (InReach eq edges (start ∷ [])) r.5 (InReach-after eq laws edges (start ∷ []) r.0 r.2 (walk_of_goes eq laws (from_one start edges) half.alike r.2 r.0 r.3 r.4) (inl r.1))

    -- the node of a number that has a label, which costs no less than 0
    pub labelled_node : (k : ℕ) (l : Label C) → HasLabel labels k l → (x : N) × StandsFor eq keys k x × InReach eq edges (start ∷ []) x × (pos 0 ≤ℤ value l.cost)
    labelled_node k l h =
        let i = half.search in
        let up = (path_up labels half.tree (by_cost value) step (StandsRoot root stands) stands (rooted (by_cost value) step root positive stands labels i) i.linked k l h).1 in (
          end_of up.first up.nodes,
          up.here,
          InReach-after eq laws edges (start ∷ []) up.first up.nodes (walk_of_goes eq laws (from_one start edges) half.alike up.nodes up.first (value l.cost) up.path.goes) (start_only up.first up.is_start),
          walk_positive step positive up.nodes up.first (value l.cost) up.path.goes,
        )

    -- the label of the start
    pub start_label : (l : Label C) × HasLabel labels 0 l × (value l.cost ≤ℤ pos 0)
    start_label = let i = half.search in i.start 0 (eq-eqb 0 0 refl)

    pub found_label : (k : ℕ) (d : ℤ) → IsFound step stands (SettledAt (by_cost value) labels) (WaitingAt (by_cost value) labels) k d → (l : Label C) × HasLabel labels k l × (value l.cost ≡ d)
    found_label k d (inl f) = (f.0, f.1, f.3)
    found_label k d (inr f) = (f.0, f.1, f.3)

    -- the labels after a turn
    module _ (keys2 : List N) (labels2 : Labels C) (half2 : IsHalf eq value fits edges start keys2 labels2) (grows : Grows (length keys) (length keys2) (StandsFor eq keys) (StandsFor eq keys2)) (n : ℕ) (l : Label C) (turned : Turned n l labels labels2) where
      -- a label is there still, or a lower one
      pub label_stays : (j : ℕ) (m : Label C) → HasLabel labels j m → (m' : Label C) × HasLabel labels2 j m' × (value m'.cost ≤ℤ value m.cost)
      label_stays j m h = elim (bool_dec m.settled) as (λ _. (m' : Label C) × HasLabel labels2 j m' × (value m'.cost ≤ℤ value m.cost)) [
        | inl t ↦ (m, turned.kept j m h t, omega (arith, ints))
        | inr o ↦
            let t = half.tree in
            let i = half.search in
            let i2 = half2.search in
            elim (t.linked j m h) as (λ _. (m' : Label C) × HasLabel labels2 j m' × (value m'.cost ≤ℤ value m.cost)) [
              | inl flat ↦ let r = i.rooted j m h flat in let b = i2.start j r.0 in (b.0, b.1, omega (arith, ints, b.2, r.2))
              | inr p ↦
                  let x = labelled_node m.parent p.0 p.1 in
                  let link = i.linked j m p.0 h (omega (arith, p.3)) p.1 x.0 x.1 in
                  let to = i2.cut.along m.parent (value p.0.cost) x.0 (p.0, turned.kept m.parent p.0 p.1 p.2, p.2, refl) (grows.stays m.parent x.0 x.1) link.1 link.0 link.2 in
                  let there : (m' : Label C) × HasLabel labels2 to.0 m' × (value m'.cost ≡ to.1) = elim to.2 as (λ _. (m' : Label C) × HasLabel labels2 to.0 m' × (value m'.cost ≡ to.1)) [ inl f ↦ (f.0, f.1, f.3) | inr f ↦ (f.0, f.1, f.3) ] in
                  let same : to.0 ≡ j = half2.one to.0 j link.0 to.3 (grows.stays j link.0 link.3) in
                  (there.0, subst (λ (k : ℕ). HasLabel labels2 k there.0) same there.1, omega (arith, ints, there.2, to.4, link.4))
            ]
      ]

      pub meeting_stays : (others : List N) (labels' : Labels C) (m : Meeting C) → IsMeeting eq value keys others labels labels' m → IsMeeting eq value keys2 others labels2 labels' m
      meeting_stays others labels' m w = let q = label_stays m.here w.here w.labelled_here in record {
        node = w.node;
        stands_here = grows.stays m.here w.node w.stands_here;
        stands_across = w.stands_across;
        here = q.0;
        labelled_here = q.1;
        across = w.across;
        labelled_across = w.labelled_across;
        sum = omega (arith, ints, q.2, w.sum);
      }

  -- a meeting, as the other side sees it
  pub meeting_swap : (keys others : List N) (labels labels' : Labels C) (m : Meeting C) → IsMeeting eq value keys others labels labels' m → IsMeeting eq value others keys labels' labels (record { here = m.across; across = m.here; cost = m.cost })
  meeting_swap keys others labels labels' m w = record {
    node = w.node;
    stands_here = w.stands_across;
    stands_across = w.stands_here;
    here = w.across;
    labelled_here = w.labelled_across;
    across = w.here;
    labelled_across = w.labelled_here;
    sum = omega (arith, ints, w.sum);
  }

  pub pair_swap : (edges previous : N → List (N × ℤ)) (start end : N) (keys others : List N) (labels labels' : Labels C) (t : ℤ) → IsPair eq value fits edges previous start end keys others labels labels' t → IsPair eq value fits previous edges end start others keys labels' labels t
  pair_swap edges previous start end keys others labels labels' t p = record {
    forth = p.back;
    back = p.forth;
    mirror = let m = p.mirror in record { precedes = λ a b z r q h. m.follows b a z q r h; follows = λ a b z r q h. m.precedes b a z q r h };
    seen = λ j k l m x sj sk hj hk either.
        let low = p.seen k j m l x sk sj hk hj (elim either as (λ _. (m.settled ≡ true) ⊎ (l.settled ≡ true)) [ inl e ↦ inr e | inr e ↦ inl e ]) in
        omega (arith, ints, low);
  }

  module _ (edges previous : N → List (N × ℤ)) (start end : N) (others : List N) (labels' : Labels C) (back : IsHalf eq value fits previous end others labels') (mirror : IsCostMirror eq edges previous start end) where
    -- what is seen of the settled nodes of one side is so of those of the other
    seen_open : (keys : List N) (labels : Labels C) (half : IsHalf eq value fits edges start keys labels) (t : ℤ)
        → ((j k : ℕ) (l m : Label C) (x : N) → StandsFor eq keys j x → StandsFor eq others k x → HasLabel labels j l → HasLabel labels' k m → l.settled ≡ true → t ≤ℤ (value l.cost +ℤ value m.cost))
        → ((k : ℕ) (m : Label C) (x : N) → StandsFor eq keys 0 x → StandsFor eq others k x → HasLabel labels' k m → m.settled ≡ true → t ≤ℤ value m.cost)
        → (j k : ℕ) (l m : Label C) (x : N) → StandsFor eq keys j x → StandsFor eq others k x → HasLabel labels j l → HasLabel labels' k m → m.settled ≡ true → t ≤ℤ (value l.cost +ℤ value m.cost)
    seen_open keys labels half t done first j k l m x sj sk hj hk s =
        let tree = half.tree in
        let i = half.search in
        let i' = back.search in
        elim (tree.linked j l hj) as (λ _. t ≤ℤ (value l.cost +ℤ value m.cost)) [
          | inl flat ↦
              let r = i.rooted j l hj flat in
              let low = first k m x (subst (λ (a : ℕ). StandsFor eq keys a x) (eqb-true j 0 r.0) sj) sk hk s in
              omega (arith, ints, low, r.2)
          | inr p ↦
              let a = labelled_node edges start keys labels half l.parent p.0 p.1 in
              let link = i.linked j l p.0 hj (omega (arith, p.3)) p.1 a.0 a.1 in
              let y = link.0 in
              let same : eq x y ≡ true = one_node keys j x y sj link.3 in
              let b = labelled_node previous end others labels' back k m hk in
              let sy : StandsFor eq others k y = StandsFor-same eq laws others k x y sk same in
              let ry : InReach eq previous (end ∷ []) y = InReach-same eq laws previous (end ∷ []) b.0 y b.2 (one_node others k b.0 y b.1 sy) in
              let on = mirror.precedes a.0 y link.1 a.2 ry link.2.1 in
              let to = i'.cut.along k (value m.cost) y (m, hk, s, refl) sy link.1 a.0 (ry, on) in
              let n = found_label previous end others labels' back to.0 to.1 to.2 in
              let low = done l.parent to.0 p.0 n.0 a.0 a.1 to.3 p.1 n.1 p.2 in
              omega (arith, ints, low, n.2, to.4, link.4)
        ]

  module _ (edges previous : N → List (N × ℤ)) (start end : N) (keys others : List N) (labels labels' : Labels C) (t : ℤ) (pair : IsPair eq value fits edges previous start end keys others labels labels' t) where
    -- after a turn of one side, which was compared with the other side
    pub pair_turned : (keys2 : List N) (labels2 : Labels C) → IsHalf eq value fits edges start keys2 labels2 → Grows (length keys) (length keys2) (StandsFor eq keys) (StandsFor eq keys2) → length labels ≡ length keys
        → (n : ℕ) (l : Label C) → HasLabel labels n l → Turned n l labels labels2 → (t2 : ℤ) → t2 ≤ℤ t → NoneBelowAt eq value keys2 others labels2 labels' t2 n → IsPair eq value fits edges previous start end keys2 others labels2 labels' t2
    pair_turned keys2 labels2 half2 grows wide n l at turned t2 less none =
        record {
          forth = half2;
          back = pair.back;
          mirror = pair.mirror;
          seen = λ j k a b x sj sk hj hk either. elim either as (λ _. t2 ≤ℤ (value a.cost +ℤ value b.cost)) [
            | inl s ↦ done j k a b x sj sk hj hk s
            | inr s ↦ seen_open edges previous start end others labels' pair.back pair.mirror keys2 labels2 half2 t2 done first j k a b x sj sk hj hk s
          ];
        }
      where
        within : (j : ℕ) (m : Label C) → HasLabel labels j m → j < length keys
        within j m h = omega (arith, HasLabel-inside labels j m h, wide)

        done : (j k : ℕ) (a b : Label C) (x : N) → StandsFor eq keys2 j x → StandsFor eq others k x → HasLabel labels2 j a → HasLabel labels' k b → a.settled ≡ true → t2 ≤ℤ (value a.cost +ℤ value b.cost)
        done j k a b x sj sk hj hk s = elim (turned.from j a hj s) as (λ _. t2 ≤ℤ (value a.cost +ℤ value b.cost)) [
          | inl e ↦
              none k a b x (subst (λ (i : ℕ). StandsFor eq keys2 i x) e.0 sj) sk (subst (λ (i : ℕ). HasLabel labels2 i a) e.0 hj) hk
              (labelled_node edges start keys2 labels2 half2 j a hj).3 (labelled_node previous end others labels' pair.back k b hk).3
          | inr h ↦ let low = pair.seen j k a b x (grows.back j x (within j a h) sj) sk h hk (inl s) in omega (arith, ints, low, less)
        ]

        first : (k : ℕ) (b : Label C) (x : N) → StandsFor eq keys2 0 x → StandsFor eq others k x → HasLabel labels' k b → b.settled ≡ true → t2 ≤ℤ value b.cost
        first k b x sj sk hk s =
            let r = start_label edges start keys labels pair.forth in
            let low = pair.seen 0 k r.0 b x (grows.back 0 x (within 0 r.0 r.1) sj) sk r.1 hk (inr s) in
            omega (arith, ints, low, less, r.2)

    abbrev step_to : N → ℤ → N → Type 0
    step_to = IsStep eq (from_one start edges)

    abbrev step_back : N → ℤ → N → Type 0
    step_back = IsStep eq (from_one end previous)

    -- a step to a node from which the end is in reach leads back on the other side
    turn_round : (a b : N) (z : ℤ) → IsReached (IsStep eq (from_one start edges)) (λ y. eq start y ≡ true) a → IsReached (IsStep eq (from_one end previous)) (λ y. eq end y ≡ true) b → IsStep eq (from_one start edges) a z b → IsStep eq (from_one end previous) b z a
    turn_round a b z ra rb s = let m = pair.mirror in let r = in_reach previous end others labels' pair.back b rb in (r, m.precedes a b z (in_reach edges start keys labels pair.forth a ra) r s.1)

    -- the label of the end, once it is settled
    settled_end : (j : ℕ) (l : Label C) (x : N) → HasLabel labels j l → l.settled ≡ true → StandsFor eq keys j x → eq end x ≡ true → t ≤ℤ value l.cost
    settled_end j l x h s here e =
        let r = start_label previous end others labels' pair.back in
        let b = pair.back in
        let low = pair.seen j 0 l r.0 x here ((b.begins x).1 e) h r.1 (inl s) in
        omega (arith, ints, low, r.2)

    -- no walk undercuts the best meeting, where the least open labels together do not
    pub walks_low : (a b : ℤ) → IsLow (by_cost value) labels a → IsLow (by_cost value) labels' b → t ≤ℤ (a +ℤ b) → NoWalkAcrossBelow eq value edges start end t
    walks_low a b la lb ab s is w u walk at =
        let f = pair.forth in
        let g = pair.back in
        let i = f.search in
        let i' = g.search in
        let r = start_label edges start keys labels f in
        elim (frontier step_to (StandsFor eq keys) (SettledAt (by_cost value) labels) (WaitingAt (by_cost value) labels) i.cut w 0 (value r.0.cost) s u (found_at (by_cost value) step_to (λ k. nat_eq k 0) (StandsFor eq keys) labels 0 r.0 r.1) ((f.begins s).1 is) walk) as (λ _. t ≤ℤ u) [
          | inl q ↦ let d = q.is_settled in let low = settled_end q.number d.0 (end_of s w) d.1 d.2 q.here at in omega (arith, ints, low, d.3, q.low, r.2)
          | inr q ↦
              let d = q.is_waiting in
              let x = end_of s q.before in
              let y = end_of x q.after in
              let e : end_of s w ≡ y = ap (end_of s) q.is ∙ end_append q.before q.after s in
              let at' : eq end y ≡ true = subst (λ z. eq end z ≡ true) e at in
              let v = walk_back step_to step_back (λ z. eq start z ≡ true) (λ z. eq end z ≡ true) turn_round q.after x q.rest (s, is, q.before, q.up_to, q.comes, refl) q.goes_on at' in
              let r' = start_label previous end others labels' g in
              elim (frontier step_back (StandsFor eq others) (SettledAt (by_cost value) labels') (WaitingAt (by_cost value) labels') i'.cut v.0 0 (value r'.0.cost) y q.rest (found_at (by_cost value) step_back (λ k. nat_eq k 0) (StandsFor eq others) labels' 0 r'.0 r'.1) ((g.begins y).1 at') v.1) as (λ _. t ≤ℤ u) [
                | inl p ↦
                    let h = p.is_settled in
                    let low = pair.seen q.number p.number d.0 h.0 x q.here (subst (StandsFor eq others p.number) v.2 p.here) d.1 h.1 (inr h.2) in
                    omega (arith, ints, low, d.3, h.3, q.low, p.low, r.2, r'.2, q.sums)
                | inr p ↦
                    let h = p.is_waiting in
                    let rest = walk_positive step_back (positive previous end others labels' g) p.after (end_of y p.before) p.rest p.goes_on in
                    omega (arith, ints, la q.number d.0 d.1 d.2, lb p.number h.0 h.1 h.2, d.3, h.3, q.low, p.low, p.sums, q.sums, r.2, r'.2, ab, rest)
              ]
        ]

    -- where one side settled all, the label of the end says what a walk costs at least
    walks_all : AllSettled labels → (s : N) → eq start s ≡ true → (w : List N) (u : ℤ) → GoesAlong (IsStep eq (from_one start edges)) s w u → eq end (end_of s w) ≡ true → (z : ℤ) × fits z × (t ≤ℤ z) × (z ≤ℤ u)
    walks_all all s is w u walk at =
        let f = pair.forth in
        let i = f.search in
        let r = start_label edges start keys labels f in
        elim (frontier step_to (StandsFor eq keys) (SettledAt (by_cost value) labels) (WaitingAt (by_cost value) labels) i.cut w 0 (value r.0.cost) s u (found_at (by_cost value) step_to (λ k. nat_eq k 0) (StandsFor eq keys) labels 0 r.0 r.1) ((f.begins s).1 is) walk) as (λ _. (z : ℤ) × fits z × (t ≤ℤ z) × (z ≤ℤ u)) [
          | inl q ↦
              let d = q.is_settled in
              (value d.0.cost, f.fit q.number d.0 d.1 d.2, settled_end q.number d.0 (end_of s w) d.1 d.2 q.here at, omega (arith, ints, d.3, q.low, r.2))
          | inr q ↦ let d = q.is_waiting in absurd (true≢false (sym (all q.number d.0 d.1) ∙ d.2))
        ]

    -- a walk from end to end, walked back
    round_trip : (s : N) → eq start s ≡ true → (w : List N) (u : ℤ) → GoesAlong (IsStep eq (from_one start edges)) s w u → eq end (end_of s w) ≡ true → (v : List N) × GoesAlong (IsStep eq (from_one end previous)) (end_of s w) v u × (end_of (end_of s w) v ≡ s)
    round_trip s is w u walk at = walk_back step_to step_back (λ z. eq start z ≡ true) (λ z. eq end z ≡ true) turn_round w s u (s, is, [], pos 0, refl, refl) walk at

  module _ (edges previous : N → List (N × ℤ)) (start end : N) (keys others : List N) (labels labels' : Labels C) (t : ℤ) (pair : IsPair eq value fits edges previous start end keys others labels labels' t) where
    walks_either : AllSettled labels ⊎ AllSettled labels' → (s : N) → eq start s ≡ true → (w : List N) (u : ℤ) → GoesAlong (IsStep eq (from_one start edges)) s w u → eq end (end_of s w) ≡ true → (z : ℤ) × fits z × (t ≤ℤ z) × (z ≤ℤ u)
    walks_either (inl all) s is w u walk at = walks_all edges previous start end keys others labels labels' t pair all s is w u walk at
    walks_either (inr all) s is w u walk at =
        let v = round_trip edges previous start end keys others labels labels' t pair s is w u walk at in
        walks_all previous edges end start others keys labels' labels t (pair_swap edges previous start end keys others labels labels' t pair) all (end_of s w) at v.0 u v.1 (subst (λ z. eq start z ≡ true) (sym v.2) is)

  -- what the best meeting says once one side settled all
  pub ended : (edges previous : N → List (N × ℤ)) (start end : N) (keys others : List N) (labels labels' : Labels C) (greatest : ℤ) → ((z : ℤ) → fits z → z ≤ℤ greatest) → (best : Option (Meeting C)) → IsPair eq value fits edges previous start end keys others labels labels' (bound value greatest best)
      → AllSettled labels ⊎ AllSettled labels' → MatchOption best (NoWalkAcross eq value edges start end) (λ m. NoWalkAcrossBelow eq value edges start end (value m.cost))
  ended edges previous start end keys others labels labels' greatest top None pair all = λ s is w u walk at.
      let q = walks_either edges previous start end keys others labels labels' (greatest +ℤ pos 1) pair all s is w u walk at in
      let low = top q.0 q.1 in
      omega (arith, ints, low, q.2)
  ended edges previous start end keys others labels labels' greatest top (Some m) pair all = λ s is w u walk at.
      let q = walks_either edges previous start end keys others labels labels' (value m.cost) pair all s is w u walk at in
      omega (arith, ints, q.2, q.3)

  -- a sum that does not fit, on the way forth from a least open label, before the best meeting is known to be best
  pub past_at : (edges previous : N → List (N × ℤ)) (start end : N) (keys others : List N) (labels labels' : Labels C) (t : ℤ) → IsPair eq value fits edges previous start end keys others labels labels' t
      → (k : ℕ) (l : Label C) → IsLeast (by_cost value) labels k l → ((z : ℤ) → fits z → t ≤ℤ z → z ≤ℤ value l.cost → ⊥) → ((x : N) → StandsFor eq keys k x → StepOverflows (IsStep eq (from_one start edges)) fits x (value l.cost)) → k < length keys
      → CostOverflows eq edges (start ∷ []) (eq end) fits
  past_at edges previous start end keys others labels labels' t pair k l z before dear inside =
      let f = pair.forth in
      let i = f.search in
      let stay : Grows (length keys) (length keys) (StandsFor eq keys) (StandsFor eq keys) = record { more = omega arith; stays = λ k x h. h; back = λ k x i h. h } in
      let failed : (j : ℕ) (m : Label C) (x : N) → HasLabel labels j m → m.settled ≡ true → StandsFor eq keys j x → eq end x ≡ false = λ j m x h s here. elim (bool_dec (eq end x)) as (λ _. eq end x ≡ false) [
        | inl e ↦ absurd (before (value m.cost) (f.fit j m h s) (settled_end edges previous start end keys others labels labels' t pair j m x h s here e) (i.low j k m l h s z.at z.opened))
        | inr n ↦ n
      ] in
      let d = numbered_overflows value fits (IsStep eq (from_one start edges)) (λ k. nat_eq k 0) (positive edges start keys labels f) (StandsFor eq keys) labels i f.tree k l z (eq end) failed f.one dear (length keys) (length keys) (StandsFor eq keys) stay inside
      (StandsRoot (λ k. nat_eq k 0) (StandsFor eq keys)) (λ x. ((λ h. h), λ h. h)) in
      cost_overflows eq laws (from_one start edges) f.alike (StandsRoot (λ k. nat_eq k 0) (StandsFor eq keys)) (start_all edges start keys labels f) (start_only edges start keys labels f) (eq end) fits keys f.one d
