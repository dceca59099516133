-- Searches by rising cost from both ends: the path that two halves make.
use Rattle.std.proofs.Common.{◌≡◌, ℕ, ◌<◌, Bool, true, List, [], ◌∷◌, ◌++◌, ◌∙◌, drop, reverse, refl, sym, ap, subst, arith, inl, inr, ℤ, pos, nat_eq}
use Rattle.std.specs.Prelude.{◌⊎◌, ◌≤ℤ◌, ◌+ℤ◌, Contains}
use Rattle.std.specs.List.{AllZip}
use Rattle.std.specs.Cmp.{IsEquivalence}
use Rattle.std.proofs.lemmas.Int.{ints}
use Rattle.std.proofs.lemmas.List.{append_assoc, reverse-append}
use Rattle.pf_base.specs.Walks.{HasNode, NoRepeats, HasNoGoalWalk, end_of}
use Rattle.pf_base.specs.Edges.{IsSuccessor, StepsCost, InReach, IsCheapestGoalPath}
use Rattle.pf_core.specs.declared.labels.Label.{Label}
use Rattle.pf_core.specs.Labels.{Labels, HasLabel, by_cost, Climbs, IsChain}
use Rattle.pf_core.specs.Steps.{GoesAlong}
use Rattle.pf_core.specs.Nodes.{NodeGraph, StandsFor, IsStep}
use Rattle.pf_core.specs.Search.{StandsRoot}
use Rattle.pf_base.proofs.ListLemmas.{Contains-head, Contains-tail, Contains-cases, Contains-reverse, reverse-cons}
use Rattle.pf_core.proofs.LabelLemmas.{label_is, parent_labelled}
use Rattle.pf_core.proofs.FrontierLemmas.{goes_more, end_more}
use Rattle.pf_core.proofs.PathLemmas.{chain_path, HasNode-append_cases, NoRepeats-append}
use Rattle.pf_discovery.proofs.LoopWalks.{AllZip-cut}
use Rattle.pf_two_sided.proofs.JoinLemmas.{behind_more}
use Rattle.pf_core.proofs.SearchLemmas.{rooted}
use Rattle.pf_core.proofs.NodeLemmas.{eq-sym, eq-trans, StandsFor-same, HasEdge-same}
use Rattle.pf_core.proofs.WalkLemmas.{same_of, end_same, HasNode-same, distinct_nodes, cheapest_edge, walk_of_goes, goes_same, none_less, no_walk}
use Rattle.pf_both_ends.specs.Internal.BothEnds.{from_one, AreHalves, IsHalf, IsPair, NoWalkAcross, NoWalkAcrossBelow}
use Rattle.pf_both_ends.proofs.BothEndsLemmas.{one_node, positive, in_reach, start_only, labelled_node}

nil_right : {A : Type 0} (xs : List A) → xs ++ [] ≡ xs
nil_right [] = refl
nil_right (x ∷ xs) = ap (λ l. x ∷ l) (nil_right xs)

module _ {N : Type 0} (eq : N → N → Bool) where
  has_either : (xs ys : List N) (x : N) → HasNode eq (xs ++ ys) x → HasNode eq xs x ⊎ HasNode eq ys x
  has_either [] ys x h = inr h
  has_either (y ∷ xs) ys x (inl e) = inl (inl e)
  has_either (y ∷ xs) ys x (inr h) = elim (has_either xs ys x h) as (λ _. HasNode eq (y ∷ xs) x ⊎ HasNode eq ys x) [ inl k ↦ inl (inr k) | inr k ↦ inr k ]

  has_reversed : (xs : List N) (x : N) → HasNode eq (reverse xs) x → HasNode eq xs x
  has_reversed [] x h = h
  has_reversed (y ∷ xs) x h = elim (HasNode-append_cases eq (reverse xs) y x (subst (λ l. HasNode eq l x) (reverse-cons y xs) h)) as (λ _. HasNode eq (y ∷ xs) x) [ inl k ↦ inr (has_reversed xs x k) | inr e ↦ inl e ]

  module _ (laws : IsEquivalence eq) where
    -- no node stands twice in two lists that have none in common, the second in reverse
    once_joined : (ys : List N) (y : N) (xs : List N) → NoRepeats eq xs → NoRepeats eq (ys ++ y ∷ []) → ((x : N) → HasNode eq xs x → ¬ (HasNode eq ys x)) → NoRepeats eq (xs ++ reverse ys)
    once_joined [] y xs once other apart = subst (NoRepeats eq) (sym (nil_right xs)) once
    once_joined (z ∷ ys) y xs once other apart =
        let before = once_joined ys y xs once other.1 (λ x h k. apart x h (inr k)) in
        let fresh : ¬ (HasNode eq (xs ++ reverse ys) z) = λ h. elim (has_either xs (reverse ys) z h) as (λ _. ⊥) [
          | inl k ↦ apart z k (inl (laws.refl z))
          | inr k ↦ other.0 (in_front ys z (has_reversed ys z k))
        ] in
        subst (NoRepeats eq) (append_assoc xs (reverse ys) (z ∷ []) ∙ ap (λ l. xs ++ l) (sym (reverse-cons z ys))) (NoRepeats-append eq (eq-sym eq laws) (xs ++ reverse ys) z before fresh)
      where
        in_front : (ws : List N) (x : N) → HasNode eq ws x → HasNode eq (ws ++ y ∷ []) x
        in_front [] x h = absurd h
        in_front (a ∷ ws) x (inl e) = inl e
        in_front (a ∷ ws) x (inr h) = inr (in_front ws x h)

  -- the number of a node that stands in a list
  number_at : (laws : IsEquivalence eq) (keys : List N) (ks : List ℕ) (ys : List N) (x : N) → AllZip (StandsFor eq keys) ks ys → HasNode eq ys x → (k : ℕ) × Contains ks k × StandsFor eq keys k x
  number_at laws keys [] [] x a h = absurd h
  number_at laws keys [] (y ∷ ys) x a h = absurd a
  number_at laws keys (k ∷ ks) [] x a h = absurd a
  number_at laws keys (k ∷ ks) (y ∷ ys) x a (inl e) = (k, Contains-head ks k, StandsFor-same eq laws keys k y x a.0 e)
  number_at laws keys (k ∷ ks) (y ∷ ys) x a (inr h) = let q = number_at laws keys ks ys x a.1 h in (q.0, Contains-tail ks k q.0 q.1, q.2)

module _ {N C : Type 0} (eq : N → N → Bool) (laws : IsEquivalence eq) (value : C → ℤ) (fits : ℤ → Type 0) where
  module _ (edges : N → List (N × ℤ)) (start : N) (keys : List N) (labels : Labels C) (half : IsHalf eq value fits edges start keys labels) where
    abbrev graph : NodeGraph N
    graph = from_one start edges

    abbrev step : N → ℤ → N → Type 0
    step = IsStep eq (from_one start edges)

    -- the labels of the numbers above one are less deep and cost no more
    pub above_low : (above : List ℕ) (k : ℕ) (l : Label C) → HasLabel labels k l → Climbs labels k above → (j : ℕ) → Contains above j → (m : Label C) × HasLabel labels j m × (value m.cost ≤ℤ value l.cost) × (m.depth < l.depth)
    above_low [] k l h c j i = absurd (omega (arith, i.1))
    above_low (p ∷ ps) k l h c j i =
        let f = half.search in
        let same : c.0 ≡ l = label_is labels k c.0 l c.1 h in
        let deep : 0 < l.depth = subst (λ (m : Label C). 0 < m.depth) same c.3 in
        let before : l.parent ≡ p = subst (λ (m : Label C). m.parent ≡ p) same c.2 in
        let m = parent_labelled labels half.tree k l h deep in
        let at : HasLabel labels p m.0 = subst (λ (n : ℕ). HasLabel labels n m.0) before m.1 in
        let x = labelled_node eq laws value fits edges start keys labels half l.parent m.0 m.1 in
        let link = f.linked k l m.0 h deep m.1 x.0 x.1 in
        let price = positive eq laws value fits edges start keys labels half in
        let low = price.non_negative x.0 link.1 link.0 link.2 in
        elim (Contains-cases ps p j i) as (λ _. (m : Label C) × HasLabel labels j m × (value m.cost ≤ℤ value l.cost) × (m.depth < l.depth)) [
          | inl e ↦ (m.0, subst (λ (n : ℕ). HasLabel labels n m.0) e at, omega (arith, ints, low, link.4), omega (arith, m.3))
          | inr r ↦ let q = above_low ps p m.0 at c.4 j r in (q.0, q.1, omega (arith, ints, q.2, low, link.4), omega (arith, q.3, m.3))
        ]

    -- steps go along a walk, whose cost is no more
    steps_cost : (w : List N) (a : N) (u : ℤ) → GoesAlong (IsStep eq (from_one start edges)) a w u → (m : ℤ) × StepsCost eq edges a w m × (m ≤ℤ u) × GoesAlong (IsStep eq (from_one start edges)) a w m
    steps_cost [] a u h = (pos 0, refl, omega (arith, ints, h), refl)
    steps_cost (b ∷ w) a u h =
        let c = cheapest_edge eq laws edges a b h.0 h.2.1 in
        let s = c.1 in
        let q = steps_cost w b h.1 h.3 in
        let low = s.cheapest h.0 h.2.1 in
        (c.0 +ℤ q.0, (c.0, q.0, s, q.1, refl), omega (arith, ints, low, q.2, h.4), (c.0, q.0, (h.2.0, s.edge), q.3, refl))

    abbrev Start : N → Type 0
    Start x = eq start x ≡ true

    all : (a : N) → HasNode eq (start ∷ []) a → eq start a ≡ true
    all a (inl e) = e
    all a (inr h) = absurd h

    -- no walk from end to end
    pub no_walk_across : (end : N) → NoWalkAcross eq value edges start end → HasNoGoalWalk eq (IsSuccessor eq edges) (start ∷ []) (eq end)
    no_walk_across end none = no_walk eq laws (from_one start edges) half.alike (λ x. eq start x ≡ true) all (λ a e. inl e) (eq end) none

    -- a path along steps that nothing undercuts
    cheapest_across : (end : N) (t : ℤ) → NoWalkAcrossBelow eq value edges start end t → (a : N) (w : List N) (u : ℤ) → eq start a ≡ true → GoesAlong (IsStep eq (from_one start edges)) a w u → u ≤ℤ t → eq end (end_of a w) ≡ true → NoRepeats eq (a ∷ w) → IsCheapestGoalPath eq edges (start ∷ []) (eq end) (a ∷ w) t
    cheapest_across end t low a w u begins goes less ends once =
        let c = steps_cost w a u goes in
        let least : t ≤ℤ c.0 = low a begins w c.0 c.3 ends in
        record {
          goes = record { goes = record { walks = walk_of_goes eq laws (from_one start edges) half.alike w a u goes; begins = inl begins; ends = ends }; distinct = once };
          costs = subst (StepsCost eq edges a w) (omega (arith, ints, least, c.2, less)) c.1;
          best = none_less eq laws (from_one start edges) half.alike (λ x. eq start x ≡ true) all (λ a e. inl e) (eq end) t low;
        }

    -- the nodes that are answered for the numbers of a chain
    pub record IsPathTo (k : ℕ) (l : Label C) (a : N) (w : List N) : Type 0 where
      pub begins : eq start a ≡ true
      pub goes : GoesAlong (IsStep eq (from_one start edges)) a w (value l.cost)
      pub once : NoRepeats eq (a ∷ w)
      pub ends : (x : N) → StandsFor eq keys k x → eq (end_of a w) x ≡ true

    pub chain_nodes : (k : ℕ) (l : Label C) → HasLabel labels k l → (ks : List ℕ) → IsChain labels k ks → (a : N) (w : List N) → AllZip (StandsFor eq keys) ks (a ∷ w) → IsPathTo k l a w
    chain_nodes k l h ks c a w z =
        let i = half.search in
        let up = chain_path labels half.tree (by_cost value) step (StandsRoot (λ n. nat_eq n 0) (StandsFor eq keys)) (StandsFor eq keys) (rooted (by_cost value) step (λ n. nat_eq n 0) (positive eq laws value fits edges start keys labels half) (StandsFor eq keys) labels i) i.linked ks k l h c in
        let s = same_of eq laws keys ks (up.first ∷ up.nodes) (a ∷ w) up.path.numbered z in
        let last = end_of up.first up.nodes in
        record {
          begins = all a (HasNode-same eq laws (start ∷ []) up.first a s.0 (start_only eq laws value fits edges start keys labels half up.first up.is_start));
          goes = goes_same eq laws (from_one start edges) half.alike up.nodes w up.first a (value l.cost) s.0 s.1 up.path.goes;
          once = distinct_nodes eq laws keys half.one ks (a ∷ w) z up.path.distinct;
          ends = λ x at. eq-trans eq laws (end_of a w) last x (eq-sym eq laws last (end_of a w) (end_same eq laws up.nodes w up.first a s.0 s.1)) (one_node eq laws value fits keys k last x up.here at);
        }

  module _ (edges previous : N → List (N × ℤ)) (start end : N) (keys others : List N) (labels labels' : Labels C) (t : ℤ) (pair : IsPair eq value fits edges previous start end keys others labels labels' t) where
    abbrev forth : N → ℤ → N → Type 0
    forth = IsStep eq (from_one start edges)

    abbrev back : N → ℤ → N → Type 0
    back = IsStep eq (from_one end previous)

    -- a walk from the start, and then a walk from the end to the same node, walked back
    walk_on : (w : List N) (a : N) (p : List N) (c : ℤ) (e b : N) (u : List N) (d z : ℤ) → eq start a ≡ true → GoesAlong (IsStep eq (from_one start edges)) a p c → eq end e ≡ true → GoesAlong (IsStep eq (from_one end previous)) e u d → end_of e u ≡ b
        → GoesAlong (IsStep eq (from_one end previous)) b w z → eq (end_of b w) (end_of a p) ≡ true
        → GoesAlong (IsStep eq (from_one start edges)) a (p ++ drop 1 (reverse (b ∷ w))) (c +ℤ z) × (eq b (end_of a (p ++ drop 1 (reverse (b ∷ w)))) ≡ true)
    walk_on [] a p c e b u d z begins goes is goes_back at f meets = (
      subst (λ q. GoesAlong forth a q (c +ℤ z)) (sym (nil_right p)) (subst (GoesAlong forth a p) (omega (arith, ints, f)) goes),
      subst (λ q. eq b (end_of a q) ≡ true) (sym (nil_right p)) meets,
    )
    walk_on (x ∷ w) a p c e b u d z begins goes is goes_back at f meets =
        let q = walk_on w a p c e x (u ++ x ∷ []) (d +ℤ f.0) f.1 begins goes is (goes_more back u e x d f.0 goes_back (subst (λ n. back n f.0 x) (sym at) f.2)) (end_more u e x) f.3 meets in
        let front = p ++ drop 1 (reverse (x ∷ w)) in
        let last = end_of a front in
        let reached : InReach eq edges (start ∷ []) last = in_reach eq laws value fits edges start keys labels pair.forth last (a, begins, front, c +ℤ f.1, q.0, refl) in
        let m = pair.mirror in
        let edge = m.follows last b f.0 reached f.2.0 (HasEdge-same eq laws (previous b) x last f.0 q.1 f.2.1) in
        let joined : p ++ drop 1 (reverse (b ∷ x ∷ w)) ≡ front ++ b ∷ [] = ap (λ l. p ++ l) (behind_more b x w) ∙ sym (append_assoc p (drop 1 (reverse (x ∷ w))) (b ∷ [])) in (
          subst (λ l. GoesAlong forth a l (c +ℤ z)) (sym joined) (subst (GoesAlong forth a (front ++ b ∷ [])) (omega (arith, ints, f.4)) (goes_more forth front a b (c +ℤ f.1) f.0 q.0 (reached, edge))),
          subst (λ l. eq b (end_of a l) ≡ true) (sym joined) (subst (λ y. eq b y ≡ true) (sym (end_more front a b)) (laws.refl b)),
        )

    -- the halves, joined, are a cheapest path
    pub joined_halves : (cost : ℤ) (ks js : List ℕ) → AreHalves eq value keys others labels labels' cost ks js → NoWalkAcrossBelow eq value edges start end cost → (p q : List N) → AllZip (StandsFor eq keys) ks p → AllZip (StandsFor eq others) js q
        → IsCheapestGoalPath eq edges (start ∷ []) (eq end) (p ++ drop 1 (reverse q)) cost
    joined_halves cost ks js h low [] q y z = absurd (empty_chain ks h.chain y)
      where
        empty_chain : (ks : List ℕ) → IsChain labels h.meeting.here ks → AllZip (StandsFor eq keys) ks [] → ⊥
        empty_chain [] c y = not_empty (reverse c.above) h.meeting.here (c.is ∙ reverse-cons h.meeting.here c.above)
          where
            not_empty : (xs : List ℕ) (x : ℕ) → [] ≡ xs ++ x ∷ [] → ⊥
            not_empty [] x e = cc
            not_empty (a ∷ xs) x e = cc
        empty_chain (k ∷ ks) c y = y
    joined_halves cost ks js h low (a ∷ p) q y z =
        let w = h.meets in
        let c = h.chain_back in
        let over : AllZip (StandsFor eq others) (reverse c.above ++ h.meeting.across ∷ []) q = subst (λ l. AllZip (StandsFor eq others) l q) (c.is ∙ reverse-cons h.meeting.across c.above) z in
        let cut = AllZip-cut (StandsFor eq others) (reverse c.above) h.meeting.across q over in
        from_cut q cut.0 cut.1 cut.2 cut.3 z
      where
        apart : (zs : List N) → AllZip (StandsFor eq others) (reverse h.chain_back.above) zs → (x : N) → HasNode eq (a ∷ p) x → ¬ (HasNode eq zs x)
        apart zs back_zip x front rear =
            let w = h.meets in
            let c = h.chain in
            let c' = h.chain_back in
            let k = number_at eq laws keys ks (a ∷ p) x y front in
            let j = number_at eq laws others (reverse c'.above) zs x back_zip rear in
            let m = above_low previous end others labels' pair.back c'.above h.meeting.across w.across w.labelled_across c'.climbs j.0 (Contains-reverse c'.above j.0 j.1) in
            elim (h.first k.0 k.1) as (λ _. ⊥) [
              | inl e ↦
                  let same = one_node eq laws value fits keys h.meeting.here x w.node (subst (λ (n : ℕ). StandsFor eq keys n x) e k.2) w.stands_here in
                  let f = pair.back in
                  let number : j.0 ≡ h.meeting.across = f.one j.0 h.meeting.across w.node (StandsFor-same eq laws others j.0 x w.node j.2 same) w.stands_across in
                  let deep = ap (λ (n : Label C). n.depth) (label_is labels' h.meeting.across m.0 w.across (subst (λ (n : ℕ). HasLabel labels' n m.0) number m.1) w.labelled_across) in
                  omega (arith, m.3, deep)
              | inr none ↦
                  let above : Contains (h.meeting.here ∷ c.above) k.0 = Contains-reverse (h.meeting.here ∷ c.above) k.0 (subst (λ l. Contains l k.0) c.is k.1) in
                  let l : (l : Label C) × HasLabel labels k.0 l × (value l.cost ≤ℤ value w.here.cost) = elim (Contains-cases c.above h.meeting.here k.0 above) as (λ _. (l : Label C) × HasLabel labels k.0 l × (value l.cost ≤ℤ value w.here.cost)) [
                    | inl e ↦ (w.here, subst (λ (n : ℕ). HasLabel labels n w.here) e w.labelled_here, omega (arith, ints))
                    | inr r ↦ let n = above_low edges start keys labels pair.forth c.above h.meeting.here w.here w.labelled_here c.climbs k.0 r in (n.0, n.1, n.2)
                  ] in
                  let less = none j.0 l.0 m.0 x k.2 j.2 l.1 m.1 (labelled_node eq laws value fits edges start keys labels pair.forth k.0 l.0 l.1).3 (labelled_node eq laws value fits previous end others labels' pair.back j.0 m.0 m.1).3 in
                  omega (arith, ints, less, l.2, m.2, w.sum, h.low)
            ]

        from_cut : (q zs : List N) (n : N) → q ≡ zs ++ n ∷ [] → AllZip (StandsFor eq others) (reverse h.chain_back.above) zs → AllZip (StandsFor eq others) js q → IsCheapestGoalPath eq edges (start ∷ []) (eq end) ((a ∷ p) ++ drop 1 (reverse q)) cost
        from_cut [] [] n e zip z = absurd cc
        from_cut [] (b ∷ zs) n e zip z = absurd cc
        from_cut (e ∷ u) zs n is zip z =
            let w = h.meets in
            let one = chain_nodes edges start keys labels pair.forth h.meeting.here w.here w.labelled_here ks h.chain a p y in
            let other = chain_nodes previous end others labels' pair.back h.meeting.across w.across w.labelled_across js h.chain_back e u z in
            let meets : eq (end_of e u) (end_of a p) ≡ true = eq-trans eq laws (end_of e u) w.node (end_of a p) (other.ends w.node w.stands_across) (eq-sym eq laws (end_of a p) w.node (one.ends w.node w.stands_here)) in
            let joined = walk_on u a p (value w.here.cost) e e [] (pos 0) (value w.across.cost) one.begins one.goes other.begins refl refl other.goes meets in
            let rest = p ++ drop 1 (reverse (e ∷ u)) in
            let ends : eq end (end_of a rest) ≡ true = eq-trans eq laws end e (end_of a rest) other.begins joined.1 in
            let turned : drop 1 (reverse (e ∷ u)) ≡ reverse zs = ap (λ l. drop 1 (reverse l)) is ∙ ap (drop 1) (reverse-append zs (n ∷ [])) in
            let once : NoRepeats eq (a ∷ rest) = subst (λ l. NoRepeats eq ((a ∷ p) ++ l)) (sym turned) (once_joined eq laws zs n (a ∷ p) one.once (subst (NoRepeats eq) is other.once) (apart zs zip)) in
            cheapest_across edges start keys labels pair.forth end cost low a rest (value w.here.cost +ℤ value w.across.cost) one.begins joined.0 (omega (arith, ints, w.sum, h.low)) ends once
