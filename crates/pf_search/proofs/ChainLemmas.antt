-- The chain of parents of a node is a cheapest path to it.
use Rattle.std.proofs.Common.{◌≡◌, Bool, true, Option, Some, List, [], ◌∷◌, refl, subst, arith, ℤ, pos}
use Rattle.std.specs.Prelude.{◌+ℤ◌, ◌≤ℤ◌}
use Rattle.std.specs.Cmp.{IsEquivalence}
use Rattle.std.proofs.lemmas.Int.{ints}
use Rattle.pf_base.specs.Walks.{HasNode, Follows, BeginsAt, end_of}
use Rattle.pf_base.specs.Edges.{IsSuccessor, StepCosts, StepsCost, WalkCosts, InReach, HasNoNegativeCost, IsCheapestGoalPath}
use Rattle.pf_base.specs.Answers.{ListsEdges}
use Rattle.pf_core.proofs.NodeLemmas.{InReach-start, InReach-more, edge_of_same, edge_of_same_back}
use Rattle.pf_search.specs.Parents.{IsParent, IsChainOfParents, IsLeastCost, IsCheapestMap}
use Rattle.pf_search.proofs.LeastLemmas.{one_cost, path_to_same}

module _ {N : Type 0} (eq : N → N → Bool) (laws : IsEquivalence eq) {C : Type 0} (value : C → ℤ) (edges : N → List (N × ℤ)) (start : N)
    (alike : (x y : N) → InReach eq edges (start ∷ []) x → eq x y ≡ true → ListsEdges eq (λ z. z) (edges x) (edges y)) (negative : HasNoNegativeCost eq edges (start ∷ [])) where
  abbrev Reached : N → Type 0
  Reached = InReach eq edges (start ∷ [])

  least_same : (x y : N) (t : ℤ) → eq x y ≡ true → IsLeastCost eq edges start x t → IsLeastCost eq edges start y t
  least_same x y t e p = (p.0, path_to_same eq laws edges (start ∷ []) x y e p.0 t p.1)

  least_is : (x : N) (s t : ℤ) → IsLeastCost eq edges start x s → IsLeastCost eq edges start x t → s ≡ t
  least_is x s t p q = one_cost eq laws edges (start ∷ []) x x (laws.refl x) p.0 q.0 s t p.1 q.1

  -- a node with a cheapest path is in reach
  least_reached : (x : N) (t : ℤ) → IsLeastCost eq edges start x t → Reached x
  least_reached x t p = let c = p.1 in record { walk = p.0; goes = c.goes.goes }

  -- a walk costs no less than 0
  not_negative : (w : List N) (a : N) (u : ℤ) → Reached a → StepsCost eq edges a w u → pos 0 ≤ℤ u
  not_negative [] a u r s = omega (arith, ints, s)
  not_negative (b ∷ w) a u r s =
      let c = s.2 in
      omega (arith, ints, negative.from_zero a b s.0 r c.edge, not_negative w b s.1 (InReach-more eq laws edges (start ∷ []) alike a b s.0 r c.edge) s.3, s.4)

  -- the start costs nothing
  start_least : (a : N) → HasNode eq (start ∷ []) a → IsLeastCost eq edges start a (pos 0)
  start_least a h = (
    a ∷ [],
    record {
      goes = record { goes = record { walks = tt; begins = h; ends = laws.refl a }; distinct = ((λ k. k), tt) };
      costs = refl;
      best = λ walk u g c. above walk u g.begins c;
    },
  )
    where
      above : (walk : List N) (u : ℤ) → BeginsAt eq (start ∷ []) walk → WalkCosts eq edges walk u → pos 0 ≤ℤ u
      above [] u b c = absurd c
      above (d ∷ w) u b c = not_negative w d u (InReach-start eq laws edges (start ∷ []) d d b (laws.refl d)) c

  -- a step from a node costs what one from an equal node does
  step_same : (a b x : N) (z : ℤ) → Reached a → eq a b ≡ true → StepCosts eq edges a x z → StepCosts eq edges b x z
  step_same a b x z r e s = record {
    edge = edge_of_same eq laws edges (start ∷ []) alike a b x z r e s.edge;
    cheapest = λ y h. s.cheapest y (edge_of_same_back eq laws edges (start ∷ []) alike a b x y r e h);
  }

  module _ (entry : N → Option (N × C)) (map : IsCheapestMap eq edges start value entry) where
    -- along parents each step costs the difference of the least costs
    along : (w : List N) (a : N) (t : ℤ) → IsLeastCost eq edges start a t → Follows (IsParent eq entry) a w → (u : ℤ) × StepsCost eq edges a w u × IsLeastCost eq edges start (end_of a w) (t +ℤ u)
    along [] a t p f = (pos 0, refl, subst (λ (s : ℤ). IsLeastCost eq edges start a s) zero_more p)
      where
        zero_more : t ≡ t +ℤ pos 0
        zero_more = omega (arith, ints)
    along (b ∷ w) a t p f =
        let k = f.0 in
        let s = map.behind b k.0 k.1 k.2 in
        let same : s.cost ≡ t = least_is a s.cost t (least_same k.0 a s.cost k.3 s.least) p in
        let r = along w b (value k.1) (map.cheapest b k.0 k.1 k.2) f.1 in
        let sum : value k.1 +ℤ r.0 ≡ t +ℤ (s.price +ℤ r.0) = omega (arith, ints, s.sum, same) in
        (s.price +ℤ r.0, (s.price, r.0, step_same k.0 a b s.price (least_reached k.0 s.cost s.least) k.3 s.step, r.1, refl), subst (λ (v : ℤ). IsLeastCost eq edges start (end_of b w) v) sum r.2)

    steps_follow : (w : List N) (a : N) (u : ℤ) → StepsCost eq edges a w u → Follows (IsSuccessor eq edges) a w
    steps_follow [] a u s = tt
    steps_follow (b ∷ w) a u s = let c = s.2 in ((s.0, c.edge), steps_follow w b s.1 s.3)

    pub chain_cheapest : (x parent : N) (cost : C) (path : List N) → entry x ≡ Some (parent, cost) → IsChainOfParents eq entry x path → IsCheapestGoalPath eq edges (start ∷ []) (λ y. eq y x) path (value cost)
    chain_cheapest x parent cost [] e c = absurd c.linked
    chain_cheapest x parent cost (a ∷ w) e c =
        let begins = map.to_start x (a ∷ w) (parent, cost, e) c in
        let r = along w a (pos 0) (start_least a begins) c.linked in
        let least = map.cheapest x parent cost e in
        let same = one_cost eq laws edges (start ∷ []) (end_of a w) x c.ends r.2.0 least.0 (pos 0 +ℤ r.0) (value cost) r.2.1 least.1 in
        let total : r.0 ≡ value cost = omega (arith, ints, same) in
        let p = least.1 in
        record {
          goes = record { goes = record { walks = steps_follow w a r.0 r.1; begins = begins; ends = c.ends }; distinct = map.no_ring x (a ∷ w) c.linked c.ends };
          costs = subst (StepsCost eq edges a w) total r.1;
          best = p.best;
        }
