-- One graph stands for another: then the names of clean paths are the clean paths of the other.
use Rattle.std.proofs.Common.{◌≡◌, ℤ, Bool, false, List, [], ◌∷◌, map, sym, ◌∙◌, subst, inl, inr}
use Rattle.std.specs.Prelude.{All}
use Rattle.std.proofs.lemmas.List.Elements.{All-nil, All-cons, All-head, All-tail}
use Rattle.pf_base.specs.Walks.{HasNode, NoRepeats, end_of}
use Rattle.pf_base.specs.Edges.{StepCosts, WalkCosts}
use Rattle.pf_base.specs.Answers.{SameNodes}
use Rattle.pf_yen.specs.CleanPaths.{FailsBeforeEnd, PassesAtEndAlone, IsCleanPath, PathOverflows}
use Rattle.pf_routes.proofs.Naming.{AllNodes, IsNaming, edge_known, step_in, follows_known, follows_in, end_named, end_known, repeats_in, goal_in, goal_known, goal_lifted, costs_in, costs_out}

module _ {M N : Type 0} (eqM : M → M → Bool) (eqN : N → N → Bool) (name : M → N) (known : M → Type 0) (edgesM : M → List (M × ℤ)) (edgesN : N → List (N × ℤ)) (n : IsNaming eqM eqN name known edgesM edgesN) where
  node_in : (w : List M) (x : M) → AllNodes known w → known x → HasNode eqM w x → HasNode eqN (map name w) (name x)
  node_in [] x all kx h = h
  node_in (y ∷ w) x all kx (inl h) = inl (sym (n.same y x all.0 kx) ∙ h)
  node_in (y ∷ w) x all kx (inr h) = inr (node_in w x all.1 kx h)

  repeats_out : (w : List M) → AllNodes known w → NoRepeats eqN (map name w) → NoRepeats eqM w
  repeats_out [] all h = tt
  repeats_out (x ∷ w) all h = ((λ k. h.0 (node_in w x all.1 all.0 k)), repeats_out w all.1 h.1)

  -- paths are the same where their names are
  pub same_in : (v w : List M) → AllNodes known v → AllNodes known w → SameNodes eqM v w → SameNodes eqN (map name v) (map name w)
  same_in [] [] kv kw h = h
  same_in [] (y ∷ w) kv kw h = absurd h
  same_in (x ∷ v) [] kv kw h = absurd h
  same_in (x ∷ v) (y ∷ w) kv kw h = (sym (n.same x y kv.0 kw.0) ∙ h.0, same_in v w kv.1 kw.1 h.1)

  pub same_out : (v w : List M) → AllNodes known v → AllNodes known w → SameNodes eqN (map name v) (map name w) → SameNodes eqM v w
  same_out [] [] kv kw h = h
  same_out [] (y ∷ w) kv kw h = absurd h
  same_out (x ∷ v) [] kv kw h = absurd h
  same_out (x ∷ v) (y ∷ w) kv kw h = (n.same x y kv.0 kw.0 ∙ h.0, same_out v w kv.1 kw.1 h.1)

  module _ (start : M) (ks : known start) (testM : M → Bool) (testN : N → Bool) (tests : (m : M) → known m → testM m ≡ testN (name m)) where
    abbrev pub CleanM : List M → Type 0
    CleanM = IsCleanPath eqM edgesM start testM

    abbrev pub CleanN : List N → Type 0
    CleanN = IsCleanPath eqN edgesN (name start) testN

    fails_in : (a : M) (w : List M) → known a → AllNodes known w → FailsBeforeEnd testM a w → FailsBeforeEnd testN (name a) (map name w)
    fails_in a [] ka all h = tt
    fails_in a (b ∷ w) ka all h = (sym (tests a ka) ∙ h.0, fails_in b w all.0 all.1 h.1)

    fails_out : (a : M) (w : List M) → known a → AllNodes known w → FailsBeforeEnd testN (name a) (map name w) → FailsBeforeEnd testM a w
    fails_out a [] ka all h = tt
    fails_out a (b ∷ w) ka all h = (tests a ka ∙ h.0, fails_out b w all.0 all.1 h.1)

    end_alone_in : (w : List M) → AllNodes known w → PassesAtEndAlone testM w → PassesAtEndAlone testN (map name w)
    end_alone_in [] all h = tt
    end_alone_in (a ∷ w) all h = fails_in a w all.0 all.1 h

    end_alone_out : (w : List M) → AllNodes known w → PassesAtEndAlone testN (map name w) → PassesAtEndAlone testM w
    end_alone_out [] all h = tt
    end_alone_out (a ∷ w) all h = fails_out a w all.0 all.1 h

    -- where nodes fail the test, their names do
    all_fail_in : (w : List M) → AllNodes known w → All (λ x. testM x ≡ false) w → All (λ x. testN x ≡ false) (map name w)
    all_fail_in [] all h = All-nil (λ x. testN x ≡ false)
    all_fail_in (a ∷ w) all h = All-cons (λ x. testN x ≡ false) (name a) (map name w) (sym (tests a all.0) ∙ All-head (λ x. testM x ≡ false) a w h) (all_fail_in w all.1 (All-tail (λ x. testM x ≡ false) a w h))

    pub clean_known : (path : List M) → CleanM path → AllNodes known path
    clean_known path c = goal_known eqM eqN name known edgesM edgesN n start ks testM testN tests path c.goes.goes

    -- the names of a clean path are one
    pub clean_in : (path : List M) → CleanM path → CleanN (map name path)
    clean_in path c =
        let all = clean_known path c in
        record {
          goes = record { goes = goal_in eqM eqN name known edgesM edgesN n start ks testM testN tests path c.goes.goes; distinct = repeats_in eqM eqN name known edgesM edgesN n path all c.goes.distinct };
          fails = end_alone_in path all c.fails;
        }

    -- a clean path over names is one over known nodes
    pub record LiftedClean (path : List N) : Type 0 where
      pub nodes : List M
      pub all : AllNodes known nodes
      pub names : map name nodes ≡ path
      pub clean : CleanM nodes

    pub clean_lifted : (path : List N) → CleanN path → LiftedClean path
    clean_lifted path c =
        let l = goal_lifted eqM eqN name known edgesM edgesN n start ks testM testN tests path c.goes.goes in
        record {
          nodes = l.nodes;
          all = l.all;
          names = l.names;
          clean = record {
            goes = record { goes = l.goal; distinct = repeats_out l.nodes l.all (subst (λ w. NoRepeats eqN w) (sym l.names) c.goes.distinct) };
            fails = end_alone_out l.nodes l.all (subst (λ w. PassesAtEndAlone testN w) (sym l.names) c.fails);
          };
        }

    pub clean_costs_in : (path : List M) (t : ℤ) → AllNodes known path → WalkCosts eqM edgesM path t → WalkCosts eqN edgesN (map name path) t
    clean_costs_in path t all c = costs_in eqM eqN name known edgesM edgesN n start ks testM testN tests path t all c

    pub clean_costs_out : (path : List M) (t : ℤ) → AllNodes known path → WalkCosts eqN edgesN (map name path) t → WalkCosts eqM edgesM path t
    clean_costs_out path t all c = costs_out eqM eqN name known edgesM edgesN n start ks testM testN tests path t all c

    -- a path and a step more that cost too much do so for names too
    pub path_past_in : (fits : ℤ → Type 0) → PathOverflows eqM edgesM start testM fits → PathOverflows eqN edgesN (name start) testN fits
    path_past_in fits p =
        let kf = n.spread start p.first ks p.begins in
        let all = follows_known eqM eqN name known edgesM edgesN n p.first p.rest kf p.walks in
        let ke = end_known eqM eqN name known edgesM edgesN n p.first p.rest kf all in
        let kx = edge_known eqM eqN name known edgesM edgesN n (edgesM (end_of p.first p.rest)) p.next p.price (n.targets (end_of p.first p.rest) ke) p.step.edge in
        record {
          first = name p.first;
          rest = map name p.rest;
          begins = sym (n.same start p.first ks kf) ∙ p.begins;
          walks = follows_in eqM eqN name known edgesM edgesN n p.first p.rest kf all p.walks;
          distinct = repeats_in eqM eqN name known edgesM edgesN n (p.first ∷ p.rest) (kf, all) p.distinct;
          fails = all_fail_in (p.first ∷ p.rest) (kf, all) p.fails;
          cost = p.cost;
          costs = clean_costs_in (p.first ∷ p.rest) p.cost (kf, all) p.costs;
          next = name p.next;
          price = p.price;
          step = subst (λ a. StepCosts eqN edgesN a (name p.next) p.price) (sym (end_named eqM eqN name known edgesM edgesN n p.first p.rest)) (step_in eqM eqN name known edgesM edgesN n (end_of p.first p.rest) p.next p.price ke kx p.step);
          past = p.past;
        }
