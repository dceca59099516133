-- What a search by growing limits has found.
use Rattle.std.proofs.Common.{◌≡◌, ℕ, ◌+◌, ◌<◌, ◌≤◌, Bool, true, false, true≢false, List, [], ◌∷◌, length, sym, ap, subst, arith, nat_eq, ◌∙◌}
use Rattle.std.proofs.lemmas.Cmp.{nat_eq_equiv}
use Rattle.std.proofs.lemmas.List.{length-map}
use borrow.Author.Tests.{eqb-true}
use Rattle.pf_base.specs.Walks.{HasNoGoalWalk, IsGoalPath, IsReachable}
use Rattle.pf_base.specs.Successors.{HasSuccessor, IsFewestEdgesGoalPath}
use Rattle.pf_base.specs.Answers.{SameNodes}
use Rattle.pf_base.proofs.Callers.{SameNodes-refl, nat_refl, nat_same}
use Rattle.pf_search.proofs.SimplePaths.{fewest_of, none_of}
use Rattle.pf_table_searches.specs.Internal.Trails.{nodes_along}

module _ (next : ℕ → List ℕ) (from : ℕ) (test : ℕ → Bool) where
  -- no path without edges leads from another start to a goal
  pub none_without_edges : test from ≡ false → (w : List ℕ) → length w < 1 → ¬ (IsGoalPath nat_eq (HasSuccessor nat_eq next) (from ∷ []) test (from ∷ w))
  none_without_edges t [] l g = true≢false (sym g.goes.ends ∙ t)
  none_without_edges t (a ∷ w) l g = omega (arith, l)

  successors_alike : (x y : ℕ) → IsReachable nat_eq (HasSuccessor nat_eq next) (from ∷ []) x → nat_eq x y ≡ true → SameNodes nat_eq (next x) (next y)
  successors_alike x y r e = subst (λ (zs : List ℕ). SameNodes nat_eq (next x) zs) (nat_same next x y e) (SameNodes-refl nat_eq nat_refl (next x))

  test_alike : (x y : ℕ) → IsReachable nat_eq (HasSuccessor nat_eq next) (from ∷ []) x → nat_eq x y ≡ true → test x ≡ test y
  test_alike x y r e = ap test (eqb-true x y e)

  -- a goal path up to the limit has fewest edges where none has fewer than the limit
  pub fewest_along : (limit : ℕ) (entries : List (ℕ × ℕ)) → ((w : List ℕ) → length w < limit → ¬ (IsGoalPath nat_eq (HasSuccessor nat_eq next) (from ∷ []) test (from ∷ w)))
      → IsGoalPath nat_eq (HasSuccessor nat_eq next) (from ∷ []) test (nodes_along entries) → length entries ≤ limit + 1 → IsFewestEdgesGoalPath nat_eq next (from ∷ []) test (nodes_along entries)
  fewest_along limit entries none goal short = fewest_of nat_eq nat_eq_equiv next from successors_alike test test_alike limit (nodes_along entries) none goal (omega (arith, short, length-map entries (λ (e : ℕ × ℕ). e.0)))

  -- where no path leads to a goal, no walk does
  pub no_walk_left : ((w : List ℕ) → ¬ (IsGoalPath nat_eq (HasSuccessor nat_eq next) (from ∷ []) test (from ∷ w))) → HasNoGoalWalk nat_eq (HasSuccessor nat_eq next) (from ∷ []) test
  no_walk_left none = none_of nat_eq nat_eq_equiv next from successors_alike test test_alike none
