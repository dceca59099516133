-- One graph stands for another: each known node has a name, and its edges are those of its name. Then cheapest paths and paths with fewest edges are, too.
use Rattle.std.proofs.Common.{◌≡◌, ℤ, Bool, true, List, [], ◌∷◌, map, length, refl, sym, ap, ◌∙◌, subst, inl, inr, arith}
use Rattle.std.proofs.lemmas.List.{length-map}
use Rattle.std.specs.Prelude.{⊤}
use Rattle.pf_base.specs.Walks.{HasNode, NoRepeats, end_of, Follows, IsGoalWalk, HasNoGoalWalk}
use Rattle.pf_base.specs.Edges.{HasEdge, IsSuccessor, StepCosts, StepsCost, WalkCosts, NoGoalWalkCostsLess, IsCheapestGoalPath, CostOverflows}
use Rattle.pf_base.specs.Successors.{IsFewestEdgesGoalPath}
use Rattle.pf_routes.proofs.Costless.{targets_of, goal_costed, goal_costless}

-- each of some nodes is known
abbrev pub AllNodes : {M : Type 0} → (M → Type 0) → List M → Type 0
AllNodes known [] = ⊤
AllNodes known (x ∷ xs) = known x × AllNodes known xs

abbrev pub AllTargets : {M : Type 0} → (M → Type 0) → List (M × ℤ) → Type 0
AllTargets known [] = ⊤
AllTargets known (e ∷ es) = known e.0 × AllTargets known es

module _ {M N : Type 0} (eqM : M → M → Bool) (eqN : N → N → Bool) (name : M → N) (known : M → Type 0) (edgesM : M → List (M × ℤ)) (edgesN : N → List (N × ℤ)) where
  abbrev pub named_edges : List (M × ℤ) → List (N × ℤ)
  named_edges es = map (λ (e : M × ℤ). (name e.0, e.1)) es

  -- known nodes are equal where their names are, and have the edges of their names, which lead to known nodes
  pub record IsNaming : Type 0 where
    pub same : (a b : M) → known a → known b → eqM a b ≡ eqN (name a) (name b)
    pub spread : (a b : M) → known a → eqM a b ≡ true → known b
    pub decides : (x y : N) → eqN x y ≡ true → x ≡ y
    pub targets : (a : M) → known a → AllTargets known (edgesM a)
    pub carried : (a : M) → known a → edgesN (name a) ≡ named_edges (edgesM a)

  module _ (n : IsNaming) where
    edge_in : (es : List (M × ℤ)) (b : M) (z : ℤ) → AllTargets known es → known b → HasEdge eqM es b z → HasEdge eqN (named_edges es) (name b) z
    edge_in [] b z all kb h = h
    edge_in (e ∷ es) b z all kb (inl h) = inl (sym (n.same e.0 b all.0 kb) ∙ h.0, h.1)
    edge_in (e ∷ es) b z all kb (inr h) = inr (edge_in es b z all.1 kb h)

    edge_out : (es : List (M × ℤ)) (b : M) (z : ℤ) → AllTargets known es → known b → HasEdge eqN (named_edges es) (name b) z → HasEdge eqM es b z
    edge_out [] b z all kb h = h
    edge_out (e ∷ es) b z all kb (inl h) = inl (n.same e.0 b all.0 kb ∙ h.0, h.1)
    edge_out (e ∷ es) b z all kb (inr h) = inr (edge_out es b z all.1 kb h)

    pub edge_known : (es : List (M × ℤ)) (b : M) (z : ℤ) → AllTargets known es → HasEdge eqM es b z → known b
    edge_known [] b z all h = absurd h
    edge_known (e ∷ es) b z all (inl h) = n.spread e.0 b all.0 h.0
    edge_known (e ∷ es) b z all (inr h) = edge_known es b z all.1 h

    -- a name that an edge leads to is that of a known node
    edge_named : (es : List (M × ℤ)) (y : N) (z : ℤ) → AllTargets known es → HasEdge eqN (named_edges es) y z → (b : M) × known b × (name b ≡ y)
    edge_named [] y z all h = absurd h
    edge_named (e ∷ es) y z all (inl h) = (e.0, all.0, n.decides (name e.0) y h.0)
    edge_named (e ∷ es) y z all (inr h) = edge_named es y z all.1 h

    to_name : (a b : M) (z : ℤ) → known a → known b → HasEdge eqM (edgesM a) b z → HasEdge eqN (edgesN (name a)) (name b) z
    to_name a b z ka kb h = subst (λ es. HasEdge eqN es (name b) z) (sym (n.carried a ka)) (edge_in (edgesM a) b z (n.targets a ka) kb h)

    from_name : (a b : M) (z : ℤ) → known a → known b → HasEdge eqN (edgesN (name a)) (name b) z → HasEdge eqM (edgesM a) b z
    from_name a b z ka kb h = edge_out (edgesM a) b z (n.targets a ka) kb (subst (λ es. HasEdge eqN es (name b) z) (n.carried a ka) h)

    pub step_in : (a b : M) (z : ℤ) → known a → known b → StepCosts eqM edgesM a b z → StepCosts eqN edgesN (name a) (name b) z
    step_in a b z ka kb s = record { edge = to_name a b z ka kb s.edge; cheapest = λ y h. s.cheapest y (from_name a b y ka kb h) }

    step_out : (a b : M) (z : ℤ) → known a → known b → StepCosts eqN edgesN (name a) (name b) z → StepCosts eqM edgesM a b z
    step_out a b z ka kb s = record { edge = from_name a b z ka kb s.edge; cheapest = λ y h. s.cheapest y (to_name a b y ka kb h) }

    pub follows_known : (a : M) (w : List M) → known a → Follows (IsSuccessor eqM edgesM) a w → AllNodes known w
    follows_known a [] ka f = tt
    follows_known a (b ∷ w) ka f = let kb = edge_known (edgesM a) b f.0.0 (n.targets a ka) f.0.1 in (kb, follows_known b w kb f.1)

    pub follows_in : (a : M) (w : List M) → known a → AllNodes known w → Follows (IsSuccessor eqM edgesM) a w → Follows (IsSuccessor eqN edgesN) (name a) (map name w)
    follows_in a [] ka all f = tt
    follows_in a (b ∷ w) ka all f = ((f.0.0, to_name a b f.0.0 ka all.0 f.0.1), follows_in b w all.0 all.1 f.1)

    -- a walk over names is one over known nodes
    record Lifted (a : M) (w : List N) : Type 0 where
      walk : List M
      all : AllNodes known walk
      names : map name walk ≡ w
      follows : Follows (IsSuccessor eqM edgesM) a walk

    lifted : (a : M) (w : List N) → known a → Follows (IsSuccessor eqN edgesN) (name a) w → Lifted a w
    lifted a [] ka f = record { walk = []; all = tt; names = refl; follows = tt }
    lifted a (y ∷ w) ka f =
        let h = subst (λ es. HasEdge eqN es y f.0.0) (n.carried a ka) f.0.1 in
        let b = edge_named (edgesM a) y f.0.0 (n.targets a ka) h in
        let here : HasEdge eqN (edgesN (name a)) (name b.0) f.0.0 = subst (λ x. HasEdge eqN (edgesN (name a)) x f.0.0) (sym b.2) f.0.1 in
        let rest = lifted b.0 w b.1 (subst (λ x. Follows (IsSuccessor eqN edgesN) x w) (sym b.2) f.1) in
        record {
          walk = b.0 ∷ rest.walk;
          all = (b.1, rest.all);
          names = ap (λ x. x ∷ map name rest.walk) b.2 ∙ ap (λ l. y ∷ l) rest.names;
          follows = ((f.0.0, from_name a b.0 f.0.0 ka b.1 here), rest.follows);
        }

    pub end_named : (a : M) (w : List M) → end_of (name a) (map name w) ≡ name (end_of a w)
    end_named a [] = refl
    end_named a (b ∷ w) = end_named b w

    pub end_known : (a : M) (w : List M) → known a → AllNodes known w → known (end_of a w)
    end_known a [] ka all = ka
    end_known a (b ∷ w) ka all = end_known b w all.0 all.1

    pub steps_in : (a : M) (w : List M) (t : ℤ) → known a → AllNodes known w → StepsCost eqM edgesM a w t → StepsCost eqN edgesN (name a) (map name w) t
    steps_in a [] t ka all c = c
    steps_in a (b ∷ w) t ka all c = (c.0, c.1, step_in a b c.0 ka all.0 c.2, steps_in b w c.1 all.0 all.1 c.3, c.4)

    steps_out : (a : M) (w : List M) (t : ℤ) → known a → AllNodes known w → StepsCost eqN edgesN (name a) (map name w) t → StepsCost eqM edgesM a w t
    steps_out a [] t ka all c = c
    steps_out a (b ∷ w) t ka all c = (c.0, c.1, step_out a b c.0 ka all.0 c.2, steps_out b w c.1 all.0 all.1 c.3, c.4)

    pub node_out : (w : List M) (x : M) → AllNodes known w → known x → HasNode eqN (map name w) (name x) → HasNode eqM w x
    node_out [] x all kx h = h
    node_out (y ∷ w) x all kx (inl h) = inl (n.same y x all.0 kx ∙ h)
    node_out (y ∷ w) x all kx (inr h) = inr (node_out w x all.1 kx h)

    pub repeats_in : (w : List M) → AllNodes known w → NoRepeats eqM w → NoRepeats eqN (map name w)
    repeats_in [] all h = tt
    repeats_in (x ∷ w) all h = ((λ k. h.0 (node_out w x all.1 all.0 k)), repeats_in w all.1 h.1)

    module _ (start : M) (ks : known start) (testM : M → Bool) (testN : N → Bool) (tests : (m : M) → known m → testM m ≡ testN (name m)) where
      abbrev pub GoalM : List M → Type 0
      GoalM = IsGoalWalk eqM (IsSuccessor eqM edgesM) (start ∷ []) testM

      abbrev pub GoalN : List N → Type 0
      GoalN = IsGoalWalk eqN (IsSuccessor eqN edgesN) (name start ∷ []) testN

      first_known : (a : M) → HasNode eqM (start ∷ []) a → known a
      first_known a (inl h) = n.spread start a ks h
      first_known a (inr h) = absurd h

      first_in : (a : M) → known a → HasNode eqM (start ∷ []) a → HasNode eqN (name start ∷ []) (name a)
      first_in a ka (inl h) = inl (sym (n.same start a ks ka) ∙ h)
      first_in a ka (inr h) = absurd h

      pub goal_known : (walk : List M) → GoalM walk → AllNodes known walk
      goal_known [] g = tt
      goal_known (a ∷ w) g = let ka = first_known a g.begins in (ka, follows_known a w ka g.walks)

      pub goal_in : (walk : List M) → GoalM walk → GoalN (map name walk)
      goal_in [] g = absurd g.walks
      goal_in (a ∷ w) g =
          let ka = first_known a g.begins in
          let all = follows_known a w ka g.walks in
          record {
            walks = follows_in a w ka all g.walks;
            begins = first_in a ka g.begins;
            ends = ap testN (end_named a w) ∙ sym (tests (end_of a w) (end_known a w ka all)) ∙ g.ends;
          }

      -- a goal walk over names is one over known nodes
      pub record LiftedGoal (walk : List N) : Type 0 where
        pub nodes : List M
        pub all : AllNodes known nodes
        pub names : map name nodes ≡ walk
        pub goal : GoalM nodes

      goal_lifted_by : (x : N) (w : List N) → eqN (name start) x ≡ true → Follows (IsSuccessor eqN edgesN) x w → testN (end_of x w) ≡ true → LiftedGoal (x ∷ w)
      goal_lifted_by x w begins walks ends =
          let e = n.decides (name start) x begins in
          let l = lifted start w ks (subst (λ y. Follows (IsSuccessor eqN edgesN) y w) (sym e) walks) in
          let itself : eqN (name start) (name start) ≡ true = ap (eqN (name start)) e ∙ begins in
          let last : end_of (name start) (map name l.walk) ≡ end_of x w = ap (end_of (name start)) l.names ∙ ap (λ y. end_of y w) e in
          record {
            nodes = start ∷ l.walk;
            all = (ks, l.all);
            names = ap (λ y. y ∷ map name l.walk) e ∙ ap (λ v. x ∷ v) l.names;
            goal = record {
              walks = l.follows;
              begins = inl (n.same start start ks ks ∙ itself);
              ends = tests (end_of start l.walk) (end_known start l.walk ks l.all) ∙ ap testN (sym (end_named start l.walk) ∙ last) ∙ ends;
            };
          }

      pub goal_lifted : (walk : List N) → GoalN walk → LiftedGoal walk
      goal_lifted [] g = absurd g.walks
      goal_lifted (x ∷ w) g = by g.begins
        where
          by : HasNode eqN (name start ∷ []) x → LiftedGoal (x ∷ w)
          by (inl h) = goal_lifted_by x w h g.walks g.ends
          by (inr h) = absurd h

      -- no walk over names either
      pub none_named : HasNoGoalWalk eqM (IsSuccessor eqM edgesM) (start ∷ []) testM → HasNoGoalWalk eqN (IsSuccessor eqN edgesN) (name start ∷ []) testN
      none_named none = λ walk g. let l = goal_lifted walk g in none l.nodes l.goal

      pub costs_in : (walk : List M) (t : ℤ) → AllNodes known walk → WalkCosts eqM edgesM walk t → WalkCosts eqN edgesN (map name walk) t
      costs_in [] t all c = c
      costs_in (a ∷ w) t all c = steps_in a w t all.0 all.1 c

      pub costs_out : (walk : List M) (t : ℤ) → AllNodes known walk → WalkCosts eqN edgesN (map name walk) t → WalkCosts eqM edgesM walk t
      costs_out [] t all c = c
      costs_out (a ∷ w) t all c = steps_out a w t all.0 all.1 c

      pub least_named : (t : ℤ) → NoGoalWalkCostsLess eqM edgesM (start ∷ []) testM t → NoGoalWalkCostsLess eqN edgesN (name start ∷ []) testN t
      least_named t least = λ walk u g c.
          let l = goal_lifted walk g in
          least l.nodes u l.goal (costs_out l.nodes u l.all (subst (λ v. WalkCosts eqN edgesN v u) (sym l.names) c))

      -- the names of a best path are one
      pub best_named : (path : List M) (t : ℤ) → IsCheapestGoalPath eqM edgesM (start ∷ []) testM path t → IsCheapestGoalPath eqN edgesN (name start ∷ []) testN (map name path) t
      best_named path t b =
          let all = goal_known path b.goes.goes in
          record {
            goes = record { goes = goal_in path b.goes.goes; distinct = repeats_in path all b.goes.distinct };
            costs = costs_in path t all b.costs;
            best = least_named t b.best;
          }

      -- the names of a path with fewest edges are one
      pub fewest_named : (path : List M) → IsFewestEdgesGoalPath eqM (λ a. targets_of (edgesM a)) (start ∷ []) testM path → IsFewestEdgesGoalPath eqN (λ x. targets_of (edgesN x)) (name start ∷ []) testN (map name path)
      fewest_named path s =
          let goal = goal_costed eqM edgesM (start ∷ []) testM path s.goes.goes in
          record {
            goes = record { goes = goal_costless eqN edgesN (name start ∷ []) testN (map name path) (goal_in path goal); distinct = repeats_in path (goal_known path goal) s.goes.distinct };
            fewest = λ walk g.
                let l = goal_lifted walk (goal_costed eqN edgesN (name start ∷ []) testN walk g) in
                let least = s.fewest l.nodes (goal_costless eqM edgesM (start ∷ []) testM l.nodes l.goal) in
                omega (arith, least, length-map path name, length-map l.nodes name, ap length l.names);
          }

    -- where a walk from a known node ends
    end_of_goal : (start node : M) (path : List M) → known start → IsGoalWalk eqM (IsSuccessor eqM edgesM) (start ∷ []) (λ y. eqM y node) path → known node
    end_of_goal start node [] ks g = absurd g.walks
    end_of_goal start node (a ∷ w) ks g = by g.begins
      where
        by : HasNode eqM (start ∷ []) a → known node
        by (inl h) = let ka = n.spread start a ks h in n.spread (end_of a w) node (end_known a w ka (follows_known a w ka g.walks)) g.ends
        by (inr h) = absurd h

    -- a sum that does not fit does not fit for names either
    pub past_named : (start : M) (ks : known start) (testM : M → Bool) (testN : N → Bool) (tests : (m : M) → known m → testM m ≡ testN (name m)) (fits : ℤ → Type 0)
        → CostOverflows eqM edgesM (start ∷ []) testM fits → CostOverflows eqN edgesN (name start ∷ []) testN fits
    past_named start ks testM testN tests fits p =
        let at = λ (y : M). eqM y p.node in
        let kn = end_of_goal start p.node p.path ks p.cheapest.goes.goes in
        let kx = edge_known (edgesM p.node) p.next p.price (n.targets p.node kn) p.step.edge in
        record {
          node = name p.node;
          path = map name p.path;
          cost = p.cost;
          cheapest = best_named start ks at (λ y. eqN y (name p.node)) (λ m k. n.same m p.node k kn) p.path p.cost p.cheapest;
          next = name p.next;
          price = p.price;
          step = step_in p.node p.next p.price kn kx p.step;
          past = p.past;
          none_cheaper = least_named start ks testM testN tests p.cost p.none_cheaper;
        }
