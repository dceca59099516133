-- A graph over numbers and the graph over the names that they stand for: walks of one are walks of the other.
use Rattle.std.proofs.Common.{◌≡◌, inl, inr, ℕ, ℤ, ◌<◌, refl, sym, subst, ◌∙◌, arith, Bool, true, nat_eq, eq-eqb, List, [], ◌∷◌, length, map}
use Rattle.std.specs.Prelude.{Some, Contains}
use Rattle.std.specs.Cmp.{IsEquivalence}
use Rattle.std.specs.List.{AllZip}
use Rattle.std.proofs.lemmas.Slice.Zip.{AllZip-long}
use Rattle.pf_base.specs.Walks.{HasNode, NoRepeats, end_of, Follows, EndsAt, IsGoalWalk, IsGoalPath, HasNoGoalWalk}
use Rattle.pf_base.specs.Edges.{HasEdge, IsSuccessor, StepCosts, StepsCost, WalkCosts, NoGoalWalkCostsLess, IsCheapestGoalPath, CostOverflows}
use Rattle.pf_base.specs.Successors.{HasSuccessor, IsFewestEdgesGoalPath}
use Rattle.pf_core.specs.Nodes.{StandsFor}
use Rattle.pf_core.specs.NodeLaws.{StandsFor-inside}
use Rattle.pf_base.proofs.ListLemmas.{bool_dec, Contains-cases}
use Rattle.pf_core.proofs.NodeLemmas.{eq-sym, eq-trans, StandsFor-same}
use Rattle.pf_edge_lists.proofs.NumberedNames.{has_at, number_is}
use borrow.Author.Tests.{eqb-true}

module _ {N : Type 0} {eq : N → N → Bool} (laws : IsEquivalence eq) (names : List N) where
  abbrev pub Stands : ℕ → N → Type 0
  Stands = StandsFor eq names

  -- one node each
  pub same_name : (k : ℕ) (x y : N) → Stands k x → Stands k y → eq x y ≡ true
  same_name k x y a b =
      let e : Some a.0 ≡ Some b.0 = sym a.1 ∙ b.1 in
      let f : a.0 ≡ b.0 = cc in
      eq-trans eq laws x a.0 y (eq-sym eq laws a.0 x a.2) (subst (λ m. eq m y ≡ true) (sym f) b.2)

  pub numbers_inside : (ks : List ℕ) (xs : List N) → AllZip Stands ks xs → (k : ℕ) → Contains ks k → k < length names
  numbers_inside [] xs z k h = absurd (omega (arith, h.1))
  numbers_inside (j ∷ ks) [] z k h = absurd z
  numbers_inside (j ∷ ks) (x ∷ xs) z k h = elim (Contains-cases ks j k h) as (λ _. k < length names) [
    | inl e ↦ subst (λ (n : ℕ). n < length names) e (StandsFor-inside eq names j x z.0)
    | inr i ↦ numbers_inside ks xs z.1 k i
  ]

  pub end_stands : (a : ℕ) (x : N) (w : List ℕ) (v : List N) → Stands a x → AllZip Stands w v → Stands (end_of a w) (end_of x v)
  end_stands a x [] [] s z = s
  end_stands a x [] (y ∷ v) s z = absurd z
  end_stands a x (b ∷ w) [] s z = absurd z
  end_stands a x (b ∷ w) (y ∷ v) s z = end_stands b y w v z.0 z.1

  -- a step between numbers is one between names, and leads to a number of a name
  pub record IsCarried (stepM : ℕ → ℕ → Type 0) (stepN : N → N → Type 0) : Type 0 where
    pub out : (a b : ℕ) (x y : N) → Stands a x → Stands b y → stepM a b → stepN x y
    pub back : (a b : ℕ) (x y : N) → Stands a x → Stands b y → stepN x y → stepM a b
    pub named : (a b : ℕ) (x : N) → Stands a x → stepM a b → (y : N) × Stands b y
    pub numbered : (a : ℕ) (x y : N) → Stands a x → stepN x y → (b : ℕ) × Stands b y

  module _ (distinct : NoRepeats eq names) where
    pub one : (i j : ℕ) (x : N) → Stands i x → Stands j x → i ≡ j
    one i j x a b = sym (number_is laws names i a.0 x distinct a.1 a.2) ∙ number_is laws names j b.0 x distinct b.1 b.2

    -- a test for one number is the test for its name
    pub test_stands : (t : ℕ) (y : N) → Stands t y → (k : ℕ) (x : N) → Stands k x → nat_eq k t ≡ eq x y
    test_stands t y st k x s = elim (bool_dec (eq x y)) as (λ _. nat_eq k t ≡ eq x y) [
      | inl e ↦ eq-eqb k t (one k t y (StandsFor-same eq laws names k x y s e) st) ∙ sym e
      | inr f ↦ elim (bool_dec (nat_eq k t)) as (λ _. nat_eq k t ≡ eq x y) [
        | inl e ↦ e ∙ sym (same_name t x y (subst (λ (n : ℕ). Stands n x) (eqb-true k t e) s) st)
        | inr g ↦ g ∙ sym f
      ]
    ]

    pub node_back : (w : List ℕ) (v : List N) (k : ℕ) (x : N) → AllZip Stands w v → Stands k x → HasNode eq v x → HasNode nat_eq w k
    node_back [] [] k x z s h = h
    node_back [] (y ∷ v) k x z s h = absurd z
    node_back (j ∷ w) [] k x z s h = absurd z
    node_back (j ∷ w) (y ∷ v) k x z s (inl e) = inl (test_stands k x s j y z.0 ∙ e)
    node_back (j ∷ w) (y ∷ v) k x z s (inr h) = inr (node_back w v k x z.1 s h)

    pub node_out : (w : List ℕ) (v : List N) (k : ℕ) (x : N) → AllZip Stands w v → Stands k x → HasNode nat_eq w k → HasNode eq v x
    node_out [] [] k x z s h = h
    node_out [] (y ∷ v) k x z s h = absurd z
    node_out (j ∷ w) [] k x z s h = absurd z
    node_out (j ∷ w) (y ∷ v) k x z s (inl e) = inl (sym (test_stands k x s j y z.0) ∙ e)
    node_out (j ∷ w) (y ∷ v) k x z s (inr h) = inr (node_out w v k x z.1 s h)

    pub repeats_out : (w : List ℕ) (v : List N) → AllZip Stands w v → NoRepeats nat_eq w → NoRepeats eq v
    repeats_out [] [] z n = tt
    repeats_out [] (y ∷ v) z n = absurd z
    repeats_out (j ∷ w) [] z n = absurd z
    repeats_out (j ∷ w) (y ∷ v) z n = ((λ h. n.0 (node_back w v j y z.1 z.0 h)), repeats_out w v z.1 n.1)

    -- ---- walks

    module _ (stepM : ℕ → ℕ → Type 0) (stepN : N → N → Type 0) (c : IsCarried stepM stepN) where
      pub follows_out : (a : ℕ) (x : N) (w : List ℕ) (v : List N) → Stands a x → AllZip Stands w v → Follows stepM a w → Follows stepN x v
      follows_out a x [] [] s z f = tt
      follows_out a x [] (y ∷ v) s z f = absurd z
      follows_out a x (b ∷ w) [] s z f = absurd z
      follows_out a x (b ∷ w) (y ∷ v) s z f = (c.out a b x y s z.0 f.0, follows_out b y w v z.0 z.1 f.1)

      -- the names of a walk, and its numbers
      pub follows_named : (a : ℕ) (x : N) (w : List ℕ) → Stands a x → Follows stepM a w → (v : List N) × AllZip Stands w v
      follows_named a x [] s f = ([], tt)
      follows_named a x (b ∷ w) s f =
          let y = c.named a b x s f.0 in
          let r = follows_named b y.0 w y.1 f.1 in
          (y.0 ∷ r.0, (y.1, r.1))

      pub follows_back : (a : ℕ) (x : N) (v : List N) → Stands a x → Follows stepN x v → (w : List ℕ) × AllZip Stands w v × Follows stepM a w
      follows_back a x [] s f = ([], tt, tt)
      follows_back a x (y ∷ v) s f =
          let b = c.numbered a x y s f.0 in
          let r = follows_back b.0 y v b.1 f.1 in
          (b.0 ∷ r.0, (b.1, r.1), (c.back a b.0 x y s b.1 f.0, r.2))

      module _ (start : ℕ) (from : N) (begins : Stands start from) where
        pub starts : (a : ℕ) (x : N) → Stands a x → HasNode nat_eq (start ∷ []) a → HasNode eq (from ∷ []) x
        starts a x s h = node_out (start ∷ []) (from ∷ []) a x (begins, tt) s h

        pub starts_at : (x : N) → HasNode eq (from ∷ []) x → Stands start x
        starts_at x (inl e) = StandsFor-same eq laws names start from x begins e
        starts_at x (inr h) = absurd h

        -- a walk over names ends at a name that a number stands for
        pub ends_named : (testN : N → Bool) (to : N) → ((x : N) → testN x ≡ true → eq x to ≡ true) → ¬ (HasNode eq names to) → HasNoGoalWalk eq stepN (from ∷ []) testN
        ends_named testN to only none [] g = g.walks
        ends_named testN to only none (x ∷ v) g =
            let s = starts_at x g.begins in
            let r = follows_back start x v s g.walks in
            let e = end_stands start x r.0 v s r.1 in
            none (has_at laws names (end_of start r.0) e.0 to e.1 (eq-trans eq laws e.0 (end_of x v) to e.2 (only (end_of x v) g.ends)))

        -- the names of the numbers of a walk
        pub goal_named : (testM : ℕ → Bool) (w : List ℕ) → IsGoalWalk nat_eq stepM (start ∷ []) testM w → (v : List N) × AllZip Stands w v
        goal_named testM [] g = absurd g.walks
        goal_named testM (a ∷ w) g =
            let e : start ≡ a = by a g.begins in
            let s : Stands a from = subst (λ (n : ℕ). Stands n from) e begins in
            let r = follows_named a from w s g.walks in
            (from ∷ r.0, (s, r.1))
          where
            by : (b : ℕ) → HasNode nat_eq (start ∷ []) b → start ≡ b
            by b (inl h) = eqb-true start b h
            by b (inr h) = absurd h

        module _ (testM : ℕ → Bool) (testN : N → Bool) (tests : (k : ℕ) (x : N) → Stands k x → testM k ≡ testN x) where
          pub goal_out : (w : List ℕ) (v : List N) → AllZip Stands w v → IsGoalWalk nat_eq stepM (start ∷ []) testM w → IsGoalWalk eq stepN (from ∷ []) testN v
          goal_out [] v z g = absurd g.walks
          goal_out (a ∷ w) [] z g = absurd z
          goal_out (a ∷ w) (x ∷ v) z g = record {
            walks = follows_out a x w v z.0 z.1 g.walks;
            begins = starts a x z.0 g.begins;
            ends = sym (tests (end_of a w) (end_of x v) (end_stands a x w v z.0 z.1)) ∙ g.ends;
          }

          pub goal_back : (v : List N) → IsGoalWalk eq stepN (from ∷ []) testN v → (w : List ℕ) × AllZip Stands w v × IsGoalWalk nat_eq stepM (start ∷ []) testM w
          goal_back [] g = absurd g.walks
          goal_back (x ∷ v) g =
              let s = starts_at x g.begins in
              let r = follows_back start x v s g.walks in (
                start ∷ r.0,
                (s, r.1),
                record {
                  walks = r.2;
                  begins = inl (eq-eqb start start refl);
                  ends = tests (end_of start r.0) (end_of x v) (end_stands start x r.0 v s r.1) ∙ g.ends;
                },
              )

          pub path_out : (w : List ℕ) (v : List N) → AllZip Stands w v → IsGoalPath nat_eq stepM (start ∷ []) testM w → IsGoalPath eq stepN (from ∷ []) testN v
          path_out w v z p = record { goes = goal_out w v z p.goes; distinct = repeats_out w v z p.distinct }

          pub none_out : HasNoGoalWalk nat_eq stepM (start ∷ []) testM → HasNoGoalWalk eq stepN (from ∷ []) testN
          none_out none v g = let r = goal_back v g in none r.0 r.2

    -- ---- edges

    -- the edges lead to numbers of the nodes that the others lead to, and cost as much
    abbrev pub SameEdges : List (ℕ × ℤ) → List (N × ℤ) → Type 0
    SameEdges = AllZip (λ (e : ℕ × ℤ) (f : N × ℤ). Stands e.0 f.0 × (e.1 ≡ f.1))

    pub edge_out : (es : List (ℕ × ℤ)) (fs : List (N × ℤ)) (b : ℕ) (y : N) (z : ℤ) → SameEdges es fs → Stands b y → HasEdge nat_eq es b z → HasEdge eq fs y z
    edge_out [] [] b y z a s h = h
    edge_out [] (f ∷ fs) b y z a s h = absurd a
    edge_out (e ∷ es) [] b y z a s h = absurd a
    edge_out (e ∷ es) (f ∷ fs) b y z a s (inl h) = inl (sym (test_stands b y s e.0 f.0 a.0.0) ∙ h.0, sym a.0.1 ∙ h.1)
    edge_out (e ∷ es) (f ∷ fs) b y z a s (inr h) = inr (edge_out es fs b y z a.1 s h)

    pub edge_back : (es : List (ℕ × ℤ)) (fs : List (N × ℤ)) (b : ℕ) (y : N) (z : ℤ) → SameEdges es fs → Stands b y → HasEdge eq fs y z → HasEdge nat_eq es b z
    edge_back [] [] b y z a s h = h
    edge_back [] (f ∷ fs) b y z a s h = absurd a
    edge_back (e ∷ es) [] b y z a s h = absurd a
    edge_back (e ∷ es) (f ∷ fs) b y z a s (inl h) = inl (test_stands b y s e.0 f.0 a.0.0 ∙ h.0, a.0.1 ∙ h.1)
    edge_back (e ∷ es) (f ∷ fs) b y z a s (inr h) = inr (edge_back es fs b y z a.1 s h)

    -- without their costs
    pub ends_zip : (es : List (ℕ × ℤ)) (fs : List (N × ℤ)) → SameEdges es fs → AllZip Stands (map (λ (e : ℕ × ℤ). e.0) es) (map (λ (f : N × ℤ). f.0) fs)
    ends_zip [] [] a = tt
    ends_zip [] (f ∷ fs) a = absurd a
    ends_zip (e ∷ es) [] a = absurd a
    ends_zip (e ∷ es) (f ∷ fs) a = (a.0.0, ends_zip es fs a.1)

    name_of_number : (w : List ℕ) (v : List N) (b : ℕ) → AllZip Stands w v → HasNode nat_eq w b → (y : N) × Stands b y
    name_of_number [] v b z h = absurd h
    name_of_number (j ∷ w) [] b z h = absurd z
    name_of_number (j ∷ w) (y ∷ v) b z (inl e) = (y, subst (λ (n : ℕ). Stands n y) (eqb-true j b e) z.0)
    name_of_number (j ∷ w) (y ∷ v) b z (inr h) = name_of_number w v b z.1 h

    number_of_name : (w : List ℕ) (v : List N) (y : N) → AllZip Stands w v → HasNode eq v y → (b : ℕ) × Stands b y
    number_of_name w [] y z h = absurd h
    number_of_name [] (x ∷ v) y z h = absurd z
    number_of_name (j ∷ w) (x ∷ v) y z (inl e) = (j, StandsFor-same eq laws names j x y z.0 e)
    number_of_name (j ∷ w) (x ∷ v) y z (inr h) = number_of_name w v y z.1 h

    node_of_edge : {M : Type 0} (same : M → M → Bool) (es : List (M × ℤ)) (b : M) (z : ℤ) → HasEdge same es b z → HasNode same (map (λ (e : M × ℤ). e.0) es) b
    node_of_edge same [] b z h = h
    node_of_edge same (e ∷ es) b z (inl h) = inl h.0
    node_of_edge same (e ∷ es) b z (inr h) = inr (node_of_edge same es b z h)

    module _ (nextM : ℕ → List ℕ) (nextN : N → List N) (alike : (a : ℕ) (x : N) → Stands a x → AllZip Stands (nextM a) (nextN x)) where
      pub carried_next : IsCarried (HasSuccessor nat_eq nextM) (HasSuccessor eq nextN)
      carried_next = record {
        out = λ a b x y s t h. node_out (nextM a) (nextN x) b y (alike a x s) t h;
        back = λ a b x y s t h. node_back (nextM a) (nextN x) b y (alike a x s) t h;
        named = λ a b x s h. name_of_number (nextM a) (nextN x) b (alike a x s) h;
        numbered = λ a x y s h. number_of_name (nextM a) (nextN x) y (alike a x s) h;
      }

      module _ (start : ℕ) (from : N) (begins : Stands start from) (testM : ℕ → Bool) (testN : N → Bool) (tests : (k : ℕ) (x : N) → Stands k x → testM k ≡ testN x) where
        -- the names of a path with fewest edges are one
        pub fewest_out : (w : List ℕ) (v : List N) → AllZip Stands w v → IsFewestEdgesGoalPath nat_eq nextM (start ∷ []) testM w → IsFewestEdgesGoalPath eq nextN (from ∷ []) testN v
        fewest_out w v z b = record {
          goes = path_out _ _ carried_next start from begins testM testN tests w v z b.goes;
          fewest = λ u g.
              let r = goal_back _ _ carried_next start from begins testM testN tests u g in
              omega (arith, b.fewest r.0 r.2, AllZip-long Stands w v z, AllZip-long Stands r.0 u r.1);
        }

    module _ (edgesM : ℕ → List (ℕ × ℤ)) (edgesN : N → List (N × ℤ)) (alike : (a : ℕ) (x : N) → Stands a x → SameEdges (edgesM a) (edgesN x)) where
      pub carried_edges : IsCarried (IsSuccessor nat_eq edgesM) (IsSuccessor eq edgesN)
      carried_edges = record {
        out = λ a b x y s t h. (h.0, edge_out (edgesM a) (edgesN x) b y h.0 (alike a x s) t h.1);
        back = λ a b x y s t h. (h.0, edge_back (edgesM a) (edgesN x) b y h.0 (alike a x s) t h.1);
        named = λ a b x s h. name_of_number _ _ b (ends_zip (edgesM a) (edgesN x) (alike a x s)) (node_of_edge nat_eq (edgesM a) b h.0 h.1);
        numbered = λ a x y s h. number_of_name _ _ y (ends_zip (edgesM a) (edgesN x) (alike a x s)) (node_of_edge eq (edgesN x) y h.0 h.1);
      }

      pub step_out : (a b : ℕ) (x y : N) (z : ℤ) → Stands a x → Stands b y → StepCosts nat_eq edgesM a b z → StepCosts eq edgesN x y z
      step_out a b x y z s t c = record {
        edge = edge_out (edgesM a) (edgesN x) b y z (alike a x s) t c.edge;
        cheapest = λ u h. c.cheapest u (edge_back (edgesM a) (edgesN x) b y u (alike a x s) t h);
      }

      pub step_back : (a b : ℕ) (x y : N) (z : ℤ) → Stands a x → Stands b y → StepCosts eq edgesN x y z → StepCosts nat_eq edgesM a b z
      step_back a b x y z s t c = record {
        edge = edge_back (edgesM a) (edgesN x) b y z (alike a x s) t c.edge;
        cheapest = λ u h. c.cheapest u (edge_out (edgesM a) (edgesN x) b y u (alike a x s) t h);
      }

      steps_out : (a : ℕ) (x : N) (w : List ℕ) (v : List N) (t : ℤ) → Stands a x → AllZip Stands w v → StepsCost nat_eq edgesM a w t → StepsCost eq edgesN x v t
      steps_out a x [] [] t s z c = c
      steps_out a x [] (y ∷ v) t s z c = absurd z
      steps_out a x (b ∷ w) [] t s z c = absurd z
      steps_out a x (b ∷ w) (y ∷ v) t s z c = (c.0, c.1, step_out a b x y c.0 s z.0 c.2, steps_out b y w v c.1 z.0 z.1 c.3, c.4)

      steps_back : (a : ℕ) (x : N) (w : List ℕ) (v : List N) (t : ℤ) → Stands a x → AllZip Stands w v → StepsCost eq edgesN x v t → StepsCost nat_eq edgesM a w t
      steps_back a x [] [] t s z c = c
      steps_back a x [] (y ∷ v) t s z c = absurd z
      steps_back a x (b ∷ w) [] t s z c = absurd z
      steps_back a x (b ∷ w) (y ∷ v) t s z c = (c.0, c.1, step_back a b x y c.0 s z.0 c.2, steps_back b y w v c.1 z.0 z.1 c.3, c.4)

      pub costs_out : (w : List ℕ) (v : List N) (t : ℤ) → AllZip Stands w v → WalkCosts nat_eq edgesM w t → WalkCosts eq edgesN v t
      costs_out [] [] t z c = c
      costs_out [] (y ∷ v) t z c = absurd z
      costs_out (a ∷ w) [] t z c = absurd z
      costs_out (a ∷ w) (x ∷ v) t z c = steps_out a x w v t z.0 z.1 c

      pub costs_back : (w : List ℕ) (v : List N) (t : ℤ) → AllZip Stands w v → WalkCosts eq edgesN v t → WalkCosts nat_eq edgesM w t
      costs_back [] [] t z c = c
      costs_back [] (y ∷ v) t z c = absurd z
      costs_back (a ∷ w) [] t z c = absurd z
      costs_back (a ∷ w) (x ∷ v) t z c = steps_back a x w v t z.0 z.1 c

      module _ (start : ℕ) (from : N) (begins : Stands start from) where
        module _ (testM : ℕ → Bool) (testN : N → Bool) (tests : (k : ℕ) (x : N) → Stands k x → testM k ≡ testN x) where
          pub least_out : (t : ℤ) → NoGoalWalkCostsLess nat_eq edgesM (start ∷ []) testM t → NoGoalWalkCostsLess eq edgesN (from ∷ []) testN t
          least_out t least v u g c =
              let r = goal_back _ _ carried_edges start from begins testM testN tests v g in
              least r.0 u r.2 (costs_back r.0 v u r.1 c)

          -- the names of a cheapest path are one
          pub cheapest_out : (w : List ℕ) (v : List N) (t : ℤ) → AllZip Stands w v → IsCheapestGoalPath nat_eq edgesM (start ∷ []) testM w t → IsCheapestGoalPath eq edgesN (from ∷ []) testN v t
          cheapest_out w v t z b = record {
            goes = path_out _ _ carried_edges start from begins testM testN tests w v z b.goes;
            costs = costs_out w v t z b.costs;
            best = least_out t b.best;
          }

        -- a sum that does not fit does not fit over names either
        pub past_out : (testM : ℕ → Bool) (testN : N → Bool) → ((k : ℕ) (x : N) → Stands k x → testM k ≡ testN x) → (fits : ℤ → Type 0) → CostOverflows nat_eq edgesM (start ∷ []) testM fits → CostOverflows eq edgesN (from ∷ []) testN fits
        past_out testM testN tests fits p =
            let c = carried_edges in
            let v = goal_named _ _ c start from begins (λ (k : ℕ). nat_eq k p.node) p.path p.cheapest.goes.goes in
            let node = last_named p.path v.0 p.node v.1 p.cheapest.goes.goes.ends in
            let next = c.named p.node p.next node.0 node.1 (p.price, p.step.edge) in
            record {
              node = node.0;
              path = v.0;
              cost = p.cost;
              cheapest = cheapest_out (λ (k : ℕ). nat_eq k p.node) (λ x. eq x node.0) (λ k x s. test_stands p.node node.0 node.1 k x s) p.path v.0 p.cost v.1 p.cheapest;
              next = next.0;
              price = p.price;
              step = step_out p.node p.next node.0 next.0 p.price node.1 next.1 p.step;
              past = p.past;
              none_cheaper = least_out testM testN tests p.cost p.none_cheaper;
            }
          where
            last_named : (w : List ℕ) (v : List N) (n : ℕ) → AllZip Stands w v → EndsAt nat_eq (λ (k : ℕ). nat_eq k n) w → (y : N) × Stands n y
            last_named [] v n z h = absurd h
            last_named (a ∷ w) [] n z h = absurd z
            last_named (a ∷ w) (x ∷ v) n z h = (end_of x v, subst (λ (m : ℕ). Stands m (end_of x v)) (eqb-true (end_of a w) n h) (end_stands a x w v z.0 z.1))
