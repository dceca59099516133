-- A walk gives no more nodes than there are in reach.
use Rattle.std.proofs.Common.{◌≡◌, ℕ, ◌≤◌, suc, Bool, List, [], ◌∷◌, ◌++◌, length, refl, sym, ap, subst, arith, ℤ}
use Rattle.std.specs.Prelude.{map}
use Rattle.std.specs.Cmp.{IsEquivalence}
use Rattle.pf_base.specs.Walks.{HasNode, NoRepeats, IsAtMostNumberOf}
use Rattle.pf_base.specs.Edges.{InReach}
use Rattle.pf_base.specs.Orders.{last_nodes, IsNextTreePath, GoesOnInPreorder}
use Rattle.pf_core.specs.NodeLaws.{StandsFor-one}
use Rattle.pf_core.proofs.NodeLemmas.{at_most, eq-sym, InReach-same}
use Rattle.pf_search.specs.CheapestFirst.{CheapestWalk, IsCheapestWalk, IsGiven, given_nodes}
use Rattle.pf_search.proofs.BreadthLemmas.{at_node}
use Rattle.pf_search.proofs.BreadthLaws.{no_repeats}
use Rattle.pf_search.proofs.GivenLemmas.{settled_of_given, given_distinct, given_below}
use Rattle.pf_search.proofs.ParentLemmas.{distinct_of}

-- each tree path has a last node
module _ {N : Type 0} (eq : N → N → Bool) (next : N → List N) (start : N) where
  some_path : (given path : List N) → ¬ (IsNextTreePath eq next start given path [])
  some_path given [] e = cc
  some_path given (y ∷ v) i = by i.front i.to
    where
      by : (front : List N) → ¬ ([] ≡ front ++ i.here ∷ i.next ∷ [])
      by [] e = cc
      by (x ∷ xs) e = cc

  pub paths_counted : (paths : List (List N)) (given path : List N) → GoesOnInPreorder eq next start given path paths → length (last_nodes paths) ≡ length paths
  paths_counted [] given path h = refl
  paths_counted ([] ∷ paths) given path h = absurd (some_path given path h.0)
  paths_counted ((x ∷ w) ∷ paths) given path h = ap suc (paths_counted paths (given ++ last_nodes ((x ∷ w) ∷ [])) (x ∷ w) h.1)

module _ {N : Type 0} (eq : N → N → Bool) (laws : IsEquivalence eq) where
  -- distinct nodes of a sort are at most as many as there are nodes of that sort
  pub none_more : (P : N → Type 0) (xs : List N) → NoRepeats eq xs → ((x : N) → HasNode eq xs x → P x) → (n : ℕ) → n ≤ length xs → IsAtMostNumberOf eq P n
  none_more P xs once all n l nodes has =
      let most = at_most eq laws P xs (distinct_of eq laws xs once) (λ k x h. all x (at_node eq xs k x x h (laws.refl x))) 0 n (omega (arith, l)) nodes has in
      omega (arith, most)

  -- what a walk by rising cost found and gave
  module _ {C F : Type 0} (value : C → ℤ) (answers : F → (N → Type 0) → (N → List (N × ℤ)) → Type 0) (edges : N → List (N × ℤ)) (start : N)
      (walk : CheapestWalk N C F) (w : IsCheapestWalk eq value edges start answers walk) where
    pub given_reached : (x : N) (cost : C) → IsGiven eq walk x cost → InReach eq edges (start ∷ []) x
    given_reached x cost h = let g = settled_of_given eq walk w.given x cost h in let here = g.2 in InReach-same eq laws edges (start ∷ []) here.0 x (w.explored.reached g.0 here.0 here.1) here.2

    found_once : NoRepeats eq walk.search.nodes
    found_once = no_repeats eq walk.search.nodes (λ i j m n a b e. StandsFor-one eq laws walk.search.nodes w.explored.distinct i j n (m, a, e) (n, b, laws.refl n)) (eq-sym eq laws)

    pub given_once : NoRepeats eq (given_nodes walk)
    given_once = subst (λ (gs : List (N × C)). NoRepeats eq (map (λ (g : N × C). g.0) gs)) (sym w.given) (given_distinct eq walk.search.nodes walk.search.labels found_once)

    pub given_at_most : IsAtMostNumberOf eq (InReach eq edges (start ∷ [])) (length walk.given)
    given_at_most nodes has =
        let few = given_below walk.search.nodes walk.search.labels in
        let most = at_most eq laws (InReach eq edges (start ∷ [])) walk.search.nodes w.explored.distinct w.explored.reached 0 (length walk.given) (omega (arith, ap length w.given, few, w.wide)) nodes has in
        omega (arith, most)
