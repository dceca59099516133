-- Which tree path of a preorder a search answers.
use Rattle.std.proofs.Common.{◌≡◌, ◌<◌, ℕ, zero, suc, Bool, true, false, true≢false, List, [], ◌∷◌, ◌++◌, ◌∙◌, length, sym, subst, arith, inl, inr}
use Rattle.std.specs.Prelude.{Contains}
use Rattle.std.specs.Cmp.{IsEquivalence}
use Rattle.std.specs.List.{AllZip}
use Rattle.std.proofs.lemmas.List.Elements.{Contains-append_cases}
use Rattle.pf_base.specs.Walks.{NoRepeats, end_of, Follows, IsGoalWalk, IsGoalPath, HasNoGoalWalk, IsReachable}
use Rattle.pf_base.specs.Answers.{SameNodes}
use Rattle.pf_base.specs.Successors.{HasSuccessor}
use Rattle.pf_base.specs.Orders.{last_nodes, IsPreorder, IsWholePreorder}
use Rattle.pf_core.specs.Nodes.{StandsFor}
use Rattle.pf_core.specs.NodeLaws.{StandsFor-inside}
use Rattle.pf_core.proofs.NodeLemmas.{eq-sym}
use Rattle.pf_core.proofs.WalkLemmas.{end_same}
use Rattle.pf_search.proofs.BreadthLemmas.{Same-sym}
use Rattle.pf_search.proofs.DepthWalkLemmas.{node_at}
use Rattle.pf_search.proofs.SimplePaths.{reach_step}
use Rattle.pf_search.proofs.PreorderLemmas.{IsWalked, walked, end_of_push, last_nodes_push, HasNode-contains, HasNode-found, same_node, same_list, reachable, given_reachable, whole_reach}

-- numbers that stand for nodes are those of found nodes
pub numbers_inside : {N : Type 0} (eq : N → N → Bool) (found : List N) (numbers : List ℕ) (nodes : List N) → AllZip (StandsFor eq found) numbers nodes → (k : ℕ) → Contains numbers k → k < length found
numbers_inside eq found numbers nodes z k c = let q = node_at (StandsFor eq found) k numbers nodes z c in StandsFor-inside eq found k q.0 q.2

module _ {N : Type 0} (eq : N → N → Bool) (laws : IsEquivalence eq) (next : N → List N) (start : N) (test : N → Bool) where
  abbrev Reached : N → Type 0
  Reached = IsReachable eq (HasSuccessor eq next) (start ∷ [])

  distinct_same : (xs ys : List N) → SameNodes eq xs ys → NoRepeats eq xs → NoRepeats eq ys
  distinct_same [] [] s d = tt
  distinct_same [] (y ∷ ys) s d = absurd s
  distinct_same (x ∷ xs) [] s d = absurd s
  distinct_same (x ∷ xs) (y ∷ ys) s d = ((λ h. d.0 (same_node eq laws next start xs y x (eq-sym eq laws x y s.0) (same_list eq laws next start xs ys y s.1 h))), distinct_same xs ys s.1 d.1)

  module _ (alike : (x y : N) → Reached x → eq x y ≡ true → SameNodes eq (next x) (next y)) (tests : (x y : N) → Reached x → eq x y ≡ true → test x ≡ test y) where
    follows_same : (w v : List N) (a b : N) → Reached a → eq a b ≡ true → SameNodes eq w v → Follows (HasSuccessor eq next) a w → Follows (HasSuccessor eq next) b v
    follows_same [] [] a b r e s f = tt
    follows_same [] (d ∷ v) a b r e s f = absurd s
    follows_same (c ∷ w) [] a b r e s f = absurd s
    follows_same (c ∷ w) (d ∷ v) a b r e s f = (
      same_node eq laws next start (next b) c d s.0 (same_list eq laws next start (next b) (next a) c (Same-sym eq laws (next a) (next b) (alike a b r e)) f.0),
      follows_same w v c d (reach_step eq laws next (start ∷ []) alike a c r f.0) s.0 s.1 f.1,
    )

    -- nodes equal to those of a tree path to a node that passes are a goal path
    pub is_goal : (paths : List (List N)) (path answer : List N) (node : N) → IsPreorder eq next start (paths ++ path ∷ []) → SameNodes eq (last_nodes (path ∷ [])) (node ∷ []) → test node ≡ true → SameNodes eq path answer
        → IsGoalPath eq (HasSuccessor eq next) (start ∷ []) test answer
    is_goal paths path answer node p n t s =
        let i = subst (λ l. IsWalked eq laws next start (last_nodes (paths ++ path ∷ [])) l) (end_of_push [] paths path) (walked eq laws next start (paths ++ path ∷ []) p) in
        elim i.walk as (λ _. IsGoalPath eq (HasSuccessor eq next) (start ∷ []) test answer) [
          | inl b ↦ absurd (none path b.0 n)
          | inr b ↦ subst (λ q. NoRepeats eq q → SameNodes eq (last_nodes (q ∷ [])) (node ∷ []) → SameNodes eq q answer → IsGoalPath eq (HasSuccessor eq next) (start ∷ []) test answer) (sym b.1) (by b.0 answer b.2) i.distinct n s
        ]
      where
        none : (path : List N) → path ≡ [] → SameNodes eq (last_nodes (path ∷ [])) (node ∷ []) → ⊥
        none [] e n = n
        none (x ∷ w) e n = cc

        by : (w answer : List N) → Follows (HasSuccessor eq next) start w → NoRepeats eq (start ∷ w) → SameNodes eq (end_of start w ∷ []) (node ∷ []) → SameNodes eq (start ∷ w) answer → IsGoalPath eq (HasSuccessor eq next) (start ∷ []) test answer
        by w [] f d n s = absurd s
        by w (a ∷ v) f d n s =
            let first : Reached start = reachable eq laws next start [] start tt (laws.refl start) in
            let here : Reached (end_of start w) = reachable eq laws next start w (end_of start w) f (laws.refl (end_of start w)) in
            record {
              goes = record {
                walks = follows_same w v start a first s.0 s.1 f;
                begins = inl s.0;
                ends = sym (tests (end_of start w) (end_of a v) here (end_same eq laws w v start a s.0 s.1)) ∙ tests (end_of start w) node here n.0 ∙ t;
              };
              distinct = distinct_same (start ∷ w) (a ∷ v) s d;
            }

    -- where the preorder has ended and none of its nodes passes, no node in reach does
    pub none_passes : (paths : List (List N)) → IsPreorder eq next start paths → IsWholePreorder eq next paths → ((x : N) → Contains (last_nodes paths) x → test x ≡ false) → HasNoGoalWalk eq (HasSuccessor eq next) (start ∷ []) test
    none_passes paths p e fails walk g = by walk g
      where
        by : (walk : List N) → IsGoalWalk eq (HasSuccessor eq next) (start ∷ []) test walk → ⊥
        by [] g = absurd g.walks
        by (a ∷ w) g =
            let r : Reached (end_of a w) = record { walk = a ∷ w; goes = record { walks = g.walks; begins = g.begins; ends = laws.refl (end_of a w) } } in
            let f = HasNode-found eq (last_nodes paths) (end_of a w) (whole_reach eq laws next start alike paths p e (end_of a w) r) in
            true≢false (sym g.ends ∙ tests (end_of a w) f.0 r (eq-sym eq laws f.0 (end_of a w) f.2) ∙ fails f.0 f.1)

    -- one more node does not pass
    pub none_more : (paths : List (List N)) (path : List N) (node : N) → IsPreorder eq next start (paths ++ path ∷ []) → SameNodes eq (last_nodes (path ∷ [])) (node ∷ []) → test node ≡ false
        → ((x : N) → Contains (last_nodes paths) x → test x ≡ false) → (x : N) → Contains (last_nodes (paths ++ path ∷ [])) x → test x ≡ false
    none_more paths path node p n t fails x c = elim (Contains-append_cases (last_nodes paths) (last_nodes (path ∷ [])) x (subst (λ l. Contains l x) (last_nodes_push paths path) c)) as (λ _. test x ≡ false) [
      | inl k ↦ fails x k
      | inr k ↦ tests x node (given_reachable eq laws next start (paths ++ path ∷ []) p x (HasNode-contains eq laws (last_nodes (paths ++ path ∷ [])) x c)) (only (last_nodes (path ∷ [])) n k) ∙ t
    ]
      where
        only : (xs : List N) → SameNodes eq xs (node ∷ []) → Contains xs x → eq x node ≡ true
        only [] s k = absurd s
        only (y ∷ []) s (zero, l, e) = subst (λ z. eq z node ≡ true) e s.0
        only (y ∷ []) s (suc k, l, e) = absurd (omega (arith, l))
        only (y ∷ z ∷ xs) s k = absurd s.1
