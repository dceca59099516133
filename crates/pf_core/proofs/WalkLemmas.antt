-- From what a search says of numbers to walks over nodes.
use Rattle.std.proofs.Common.{◌≡◌, ℕ, Bool, true, true≢false, List, [], ◌∷◌, ◌∙◌, refl, sym, subst, arith, inl, inr, ℤ, pos, nat_eq, eq-eqb, Some}
use Rattle.std.specs.Prelude.{◌⊎◌, ◌↔◌, ◌≤ℤ◌, ◌+ℤ◌}
use Rattle.std.specs.Cmp.{IsEquivalence}
use Rattle.std.specs.List.{AllZip}
use Rattle.std.proofs.lemmas.Int.{ints}
use Rattle.pf_base.specs.Walks.{HasNode, NoRepeats, Follows, end_of, HasNoGoalWalk}
use Rattle.pf_base.specs.Edges.{HasEdge, IsSuccessor, StepCosts, StepsCost, InReach, HasNoNegativeCost, NoGoalWalkCostsLess, IsCheapestGoalPath, CostOverflows}
use Rattle.pf_base.specs.Answers.{ListsEdges}
use Rattle.pf_core.specs.Steps.{GoesAlong, IsNonNegative, NoGoal, NoGoalBelow, IsBestNumbered, NumberedOverflows}
use Rattle.pf_core.specs.Nodes.{NodeGraph, StandsFor, IsStep}
use Rattle.pf_base.proofs.ListLemmas.{bool_dec, int_dec}
use Rattle.pf_core.proofs.NodeLemmas.{eq-sym, eq-trans, StandsFor-same, HasEdge-same, InReach-same, InReach-start, InReach-after, InReach-more, edge_of_same}

module _ {N : Type 0} (eq : N → N → Bool) (laws : IsEquivalence eq) where
  abbrev SameNodes : List N → List N → Type 0
  SameNodes = AllZip (λ x y. eq x y ≡ true)

  -- nodes that the same numbers stand for
  pub same_of : (keys : List N) (ks : List ℕ) (xs ys : List N) → AllZip (StandsFor eq keys) ks xs → AllZip (StandsFor eq keys) ks ys → SameNodes xs ys
  same_of keys [] [] [] a b = tt
  same_of keys [] [] (y ∷ ys) a b = absurd b
  same_of keys [] (x ∷ xs) ys a b = absurd a
  same_of keys (k ∷ ks) [] ys a b = absurd a
  same_of keys (k ∷ ks) (x ∷ xs) [] a b = absurd b
  same_of keys (k ∷ ks) (x ∷ xs) (y ∷ ys) a b =
      let m = a.0 in
      let n = b.0 in
      let e : Some m.0 ≡ Some n.0 = sym m.1 ∙ n.1 in
      let same : m.0 ≡ n.0 = cc in
      (eq-trans eq laws x m.0 y (eq-sym eq laws m.0 x m.2) (subst (λ (z : N). eq z y ≡ true) (sym same) n.2), same_of keys ks xs ys a.1 b.1)

  pub end_same : (w v : List N) (a b : N) → eq a b ≡ true → SameNodes w v → eq (end_of a w) (end_of b v) ≡ true
  end_same [] [] a b e s = e
  end_same [] (y ∷ v) a b e s = absurd s
  end_same (x ∷ w) [] a b e s = absurd s
  end_same (x ∷ w) (y ∷ v) a b e s = end_same w v x y s.0 s.1

  pub HasNode-same : (xs : List N) (a b : N) → eq a b ≡ true → HasNode eq xs a → HasNode eq xs b
  HasNode-same [] a b e h = h
  HasNode-same (x ∷ xs) a b e (inl h) = inl (eq-trans eq laws x a b h e)
  HasNode-same (x ∷ xs) a b e (inr h) = inr (HasNode-same xs a b e h)

  -- distinct numbers stand for distinct nodes
  module _ (keys : List N) (one : (i j : ℕ) (x : N) → StandsFor eq keys i x → StandsFor eq keys j x → i ≡ j) where
    number_of_node : (ks : List ℕ) (ys : List N) (k : ℕ) (x : N) → AllZip (StandsFor eq keys) ks ys → HasNode eq ys x → StandsFor eq keys k x → HasNode nat_eq ks k
    number_of_node [] [] k x a h s = h
    number_of_node [] (y ∷ ys) k x a h s = absurd a
    number_of_node (j ∷ ks) [] k x a h s = absurd a
    number_of_node (j ∷ ks) (y ∷ ys) k x a (inl e) s = inl (eq-eqb j k (one j k x (StandsFor-same eq laws keys j y x a.0 e) s))
    number_of_node (j ∷ ks) (y ∷ ys) k x a (inr h) s = inr (number_of_node ks ys k x a.1 h s)

    pub distinct_nodes : (ks : List ℕ) (ys : List N) → AllZip (StandsFor eq keys) ks ys → NoRepeats nat_eq ks → NoRepeats eq ys
    distinct_nodes [] [] a n = tt
    distinct_nodes [] (y ∷ ys) a n = absurd a
    distinct_nodes (k ∷ ks) [] a n = absurd a
    distinct_nodes (k ∷ ks) (y ∷ ys) a n = ((λ h. n.0 (number_of_node ks ys k y a.1 h a.0)), distinct_nodes ks ys a.1 n.1)

  -- the cheapest of the edges that lead to a node
  cheapest_or_none : (es : List (N × ℤ)) (b : N) → ((m : ℤ) × HasEdge eq es b m × ((y : ℤ) → HasEdge eq es b y → m ≤ℤ y)) ⊎ ((y : ℤ) → ¬ (HasEdge eq es b y))
  cheapest_or_none [] b = inr (λ y h. h)
  cheapest_or_none (e ∷ es) b = elim (bool_dec (eq e.0 b)) as (λ _. ((m : ℤ) × HasEdge eq (e ∷ es) b m × ((y : ℤ) → HasEdge eq (e ∷ es) b y → m ≤ℤ y)) ⊎ ((y : ℤ) → ¬ (HasEdge eq (e ∷ es) b y))) [
    | inl t ↦ inl (elim (cheapest_or_none es b) as (λ _. (m : ℤ) × HasEdge eq (e ∷ es) b m × ((y : ℤ) → HasEdge eq (e ∷ es) b y → m ≤ℤ y)) [
      | inl r ↦ elim (int_dec e.1 r.0) as (λ _. (m : ℤ) × HasEdge eq (e ∷ es) b m × ((y : ℤ) → HasEdge eq (e ∷ es) b y → m ≤ℤ y)) [
        | inl le ↦ (e.1, inl (t, refl), λ y h. elim h as (λ _. e.1 ≤ℤ y) [ inl q ↦ subst (λ (z : ℤ). e.1 ≤ℤ z) q.1 (omega (arith, ints)) | inr q ↦ let l = r.2 y q in omega (arith, ints) ])
        | inr lt ↦ (r.0, inr r.1, λ y h. elim h as (λ _. r.0 ≤ℤ y) [ inl q ↦ subst (λ (z : ℤ). r.0 ≤ℤ z) q.1 (omega (arith, ints, lt)) | inr q ↦ r.2 y q ])
      ]
      | inr n ↦ (e.1, inl (t, refl), λ y h. elim h as (λ _. e.1 ≤ℤ y) [ inl q ↦ subst (λ (z : ℤ). e.1 ≤ℤ z) q.1 (omega (arith, ints)) | inr q ↦ absurd (n y q) ])
    ])
    | inr f ↦ elim (cheapest_or_none es b) as (λ _. ((m : ℤ) × HasEdge eq (e ∷ es) b m × ((y : ℤ) → HasEdge eq (e ∷ es) b y → m ≤ℤ y)) ⊎ ((y : ℤ) → ¬ (HasEdge eq (e ∷ es) b y))) [
      | inl r ↦ inl (r.0, inr r.1, λ y h. elim h as (λ _. r.0 ≤ℤ y) [ inl q ↦ absurd (true≢false (sym q.0 ∙ f)) | inr q ↦ r.2 y q ])
      | inr n ↦ inr (λ y h. elim h as (λ _. ⊥) [ inl q ↦ true≢false (sym q.0 ∙ f) | inr q ↦ n y q ])
    ]
  ]

  pub cheapest_edge : (edges : N → List (N × ℤ)) (a b : N) (z : ℤ) → HasEdge eq (edges a) b z → (m : ℤ) × StepCosts eq edges a b m
  cheapest_edge edges a b z h = elim (cheapest_or_none (edges a) b) as (λ _. (m : ℤ) × StepCosts eq edges a b m) [
    | inl r ↦ (r.0, record { edge = r.1; cheapest = r.2 })
    | inr n ↦ absurd (n z h)
  ]

  module _ (g : NodeGraph N) (alike : (x y : N) → InReach eq g.edges g.starts x → eq x y ≡ true → ListsEdges eq (λ z. z) (g.edges x) (g.edges y)) where
    pub no_negative : HasNoNegativeCost eq g.edges g.starts → IsNonNegative (IsStep eq g)
    no_negative h = record { non_negative = λ a z b s. h.from_zero a b z s.0 s.1 }

    -- a walk over nodes goes along steps
    goes_of_costs : (w : List N) (a : N) (u : ℤ) → InReach eq g.edges g.starts a → StepsCost eq g.edges a w u → GoesAlong (IsStep eq g) a w u
    goes_of_costs [] a u r h = h
    goes_of_costs (b ∷ w) a u r h = let s = h.2 in (h.0, h.1, (r, s.edge), goes_of_costs w b h.1 (InReach-more eq laws g.edges g.starts alike a b h.0 r s.edge) h.3, h.4)

    pub goes_of_walk : (w : List N) (a : N) → InReach eq g.edges g.starts a → Follows (IsSuccessor eq g.edges) a w → (u : ℤ) × GoesAlong (IsStep eq g) a w u
    goes_of_walk [] a r f = (pos 0, refl)
    goes_of_walk (b ∷ w) a r f = let q = goes_of_walk w b (InReach-more eq laws g.edges g.starts alike a b f.0.0 r f.0.1) f.1 in (f.0.0 +ℤ q.0, (f.0.0, q.0, (r, f.0.1), q.1, refl))

    -- and steps go along a walk, whose cost is no more
    pub walk_of_goes : (w : List N) (a : N) (u : ℤ) → GoesAlong (IsStep eq g) a w u → Follows (IsSuccessor eq g.edges) a w
    walk_of_goes [] a u h = tt
    walk_of_goes (b ∷ w) a u h = ((h.0, h.2.1), walk_of_goes w b h.1 h.3)

    costs_of_goes : (w : List N) (a : N) (u : ℤ) → GoesAlong (IsStep eq g) a w u → (m : ℤ) × StepsCost eq g.edges a w m × (m ≤ℤ u) × GoesAlong (IsStep eq g) a w m
    costs_of_goes [] a u h = (pos 0, refl, omega (arith, ints, h), refl)
    costs_of_goes (b ∷ w) a u h =
        let c = cheapest_edge g.edges a b h.0 h.2.1 in
        let s = c.1 in
        let q = costs_of_goes w b h.1 h.3 in
        let low = s.cheapest h.0 h.2.1 in
        (c.0 +ℤ q.0, (c.0, q.0, s, q.1, refl), omega (arith, ints, low, q.2, h.4), (c.0, q.0, (h.2.0, s.edge), q.3, refl))

    -- the same steps go along equal nodes
    pub goes_same : (w v : List N) (a b : N) (u : ℤ) → eq a b ≡ true → SameNodes w v → GoesAlong (IsStep eq g) a w u → GoesAlong (IsStep eq g) b v u
    goes_same [] [] a b u e s h = h
    goes_same [] (y ∷ v) a b u e s h = absurd s
    goes_same (x ∷ w) [] a b u e s h = absurd s
    goes_same (x ∷ w) (y ∷ v) a b u e s h =
        let edge = HasEdge-same eq laws (g.edges b) x y h.0 s.0 (edge_of_same eq laws g.edges g.starts alike a b x h.0 h.2.0 e h.2.1) in
        (h.0, h.1, (InReach-same eq laws g.edges g.starts a b h.2.0 e, edge), goes_same w v x y h.1 s.0 s.1 h.3, h.4)

    -- the starts of the search are those of the graph
    module _ (starts : N → Type 0) (all : (a : N) → HasNode eq g.starts a → starts a) (only : (a : N) → starts a → HasNode eq g.starts a) where
      pub reach_start : (a : N) → HasNode eq g.starts a → InReach eq g.edges g.starts a
      reach_start a h = InReach-start eq laws g.edges g.starts a a h (laws.refl a)

      -- what no walk along steps undercuts, no walk over nodes does
      pub none_less : (test : N → Bool) (t : ℤ) → NoGoalBelow (IsStep eq g) test starts t → NoGoalWalkCostsLess eq g.edges g.starts test t
      none_less test t low [] u walk costs = absurd costs
      none_less test t low (a ∷ w) u walk costs = low a (all a walk.begins) w u (goes_of_costs w a u (reach_start a walk.begins) costs) walk.ends

      pub no_walk : (test : N → Bool) → NoGoal (IsStep eq g) test starts → HasNoGoalWalk eq (IsSuccessor eq g.edges) g.starts test
      no_walk test none [] walk = walk.walks
      no_walk test none (a ∷ w) walk = let goes = goes_of_walk w a (reach_start a walk.begins) walk.walks in none a (all a walk.begins) w goes.0 goes.1 walk.ends

      -- a path along steps that nothing undercuts
      best_path : (test : N → Bool) (keys : List N) (one : (i j : ℕ) (x : N) → StandsFor eq keys i x → StandsFor eq keys j x → i ≡ j) (ks : List ℕ) (a : N) (w : List N) (t : ℤ)
          → AllZip (StandsFor eq keys) ks (a ∷ w) → NoRepeats nat_eq ks → HasNode eq g.starts a → GoesAlong (IsStep eq g) a w t → test (end_of a w) ≡ true → NoGoalBelow (IsStep eq g) test starts t
          → IsCheapestGoalPath eq g.edges g.starts test (a ∷ w) t
      best_path test keys one ks a w t numbered distinct begins goes good low =
          let c = costs_of_goes w a t goes in
          let least : t ≤ℤ c.0 = low a (all a begins) w c.0 c.3 good in
          let same : c.0 ≡ t = omega (arith, ints, least, c.2) in
          record {
            goes = record { goes = record { walks = walk_of_goes w a t goes; begins = begins; ends = good }; distinct = distinct_nodes keys one ks (a ∷ w) numbered distinct };
            costs = subst (StepsCost eq g.edges a w) same c.1;
            best = none_less test t low;
          }

      -- the nodes that are answered for the numbers of a best path
      pub best_answer : (test : N → Bool) → ((x y : N) → InReach eq g.edges g.starts x → eq x y ≡ true → test x ≡ test y) → (keys : List N) (one : (i j : ℕ) (x : N) → StandsFor eq keys i x → StandsFor eq keys j x → i ≡ j) (ks : List ℕ) (path : List N) (t : ℤ)
          → IsBestNumbered (IsStep eq g) test starts (StandsFor eq keys) ks t → AllZip (StandsFor eq keys) ks path → IsCheapestGoalPath eq g.edges g.starts test path t
      best_answer test same_test keys one ks [] t b z = absurd (same_of keys ks (b.first ∷ b.nodes) [] b.path.numbered z)
      best_answer test same_test keys one ks (a ∷ w) t b z =
          let s = same_of keys ks (b.first ∷ b.nodes) (a ∷ w) b.path.numbered z in
          let begins = only b.first b.is_start in
          let reach = InReach-after eq laws g.edges g.starts b.first b.nodes (walk_of_goes b.nodes b.first t b.path.goes) begins in
          best_path test keys one ks a w t z b.path.distinct (HasNode-same g.starts b.first a s.0 begins) (goes_same b.nodes w b.first a t s.0 s.1 b.path.goes)
          (sym (same_test (end_of b.first b.nodes) (end_of a w) reach (end_same b.nodes w b.first a s.0 s.1)) ∙ b.good) b.best

      -- a sum that does not fit
      pub cost_overflows : (test : N → Bool) (fits : ℤ → Type 0) (keys : List N) (one : (i j : ℕ) (x : N) → StandsFor eq keys i x → StandsFor eq keys j x → i ≡ j)
          → NumberedOverflows (IsStep eq g) test starts (StandsFor eq keys) fits → CostOverflows eq g.edges g.starts test fits
      cost_overflows test fits keys one d =
          let node = end_of d.first d.nodes in
          let c = cheapest_edge g.edges node d.next d.price d.edge.1 in
          let s = c.1 in
          record {
            node = node;
            path = d.first ∷ d.nodes;
            cost = d.cost;
            cheapest = best_path (λ y. eq y node) keys one d.numbers d.first d.nodes d.cost d.path.numbered d.path.distinct (only d.first d.is_start) d.path.goes (laws.refl node)
                (λ a is w u goes at. d.cheapest a is w u goes (StandsFor-same eq laws keys d.number node (end_of a w) d.here (eq-sym eq laws (end_of a w) node at)));
            next = d.next;
            price = c.0;
            step = s;
            past = d.all_past c.0 (d.edge.0, s.edge);
            none_cheaper = none_less test d.cost d.none_cheaper;
          }

-- one start
module _ {N : Type 0} (eq : N → N → Bool) (start : N) (starts : N → Type 0) (begins : (x : N) → starts x ↔ (eq start x ≡ true)) where
  pub all_starts : (a : N) → HasNode eq (start ∷ []) a → starts a
  all_starts a (inl e) = (begins a).1 e
  all_starts a (inr h) = absurd h

  pub only_starts : (a : N) → starts a → HasNode eq (start ∷ []) a
  only_starts a h = inl ((begins a).0 h)
