-- Lemmas on the least costs of nodes: each node has one.
use Rattle.std.proofs.Common.{◌≡◌, Bool, true, List, [], ◌∷◌, arith, ℤ}
use Rattle.std.specs.Cmp.{IsEquivalence}
use Rattle.std.proofs.lemmas.Int.{ints}
use Rattle.pf_base.specs.Walks.{EndsAt, IsGoalWalk, end_of}
use Rattle.pf_base.specs.Edges.{IsSuccessor, IsCheapestGoalPath}
use Rattle.pf_core.proofs.NodeLemmas.{eq-sym, eq-trans}

module _ {N : Type 0} (eq : N → N → Bool) (edges : N → List (N × ℤ)) (starts : List N) where
  -- cheapest paths to the nodes that pass one test cost the same
  pub same_cost : (test : N → Bool) (path other : List N) (s t : ℤ) → IsCheapestGoalPath eq edges starts test path s → IsCheapestGoalPath eq edges starts test other t → s ≡ t
  same_cost test path other s t p q = omega (arith, ints, p.best other t q.goes.goes q.costs, q.best path s p.goes.goes p.costs)

module _ {N : Type 0} (eq : N → N → Bool) (laws : IsEquivalence eq) (edges : N → List (N × ℤ)) (starts : List N) where
  ends_at_same : (x y : N) → eq x y ≡ true → (walk : List N) → EndsAt eq (λ z. eq z x) walk → EndsAt eq (λ z. eq z y) walk
  ends_at_same x y e [] h = absurd h
  ends_at_same x y e (a ∷ w) h = eq-trans eq laws (end_of a w) x y h e

  walk_to_same : (x y : N) → eq x y ≡ true → (walk : List N) → IsGoalWalk eq (IsSuccessor eq edges) starts (λ z. eq z x) walk → IsGoalWalk eq (IsSuccessor eq edges) starts (λ z. eq z y) walk
  walk_to_same x y e walk g = record { walks = g.walks; begins = g.begins; ends = ends_at_same x y e walk g.ends }

  -- a cheapest path to a node is one to each equal node
  pub path_to_same : (x y : N) → eq x y ≡ true → (path : List N) (t : ℤ) → IsCheapestGoalPath eq edges starts (λ z. eq z x) path t → IsCheapestGoalPath eq edges starts (λ z. eq z y) path t
  path_to_same x y e path t p = record {
    goes = record { goes = walk_to_same x y e path p.goes.goes; distinct = p.goes.distinct };
    costs = p.costs;
    best = λ walk u g c. p.best walk u (walk_to_same y x (eq-sym eq laws x y e) walk g) c;
  }

  -- cheapest paths to equal nodes cost the same
  pub one_cost : (x y : N) → eq x y ≡ true → (path other : List N) (s t : ℤ) → IsCheapestGoalPath eq edges starts (λ z. eq z x) path s → IsCheapestGoalPath eq edges starts (λ z. eq z y) other t → s ≡ t
  one_cost x y e path other s t p q = same_cost eq edges starts (λ z. eq z y) path other s t (path_to_same x y e path s p) q
