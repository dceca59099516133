-- Maps of parents. `entry x` is what a map has for the node x: the node before it on a path, its parent, and what that path costs.
use Rattle.std.specs.Prelude.{◌≡◌, ◌↔◌, ◌≤ℤ◌, ◌+ℤ◌, ◌++◌, ℤ, Bool, true, false, List, [], ◌∷◌, Option, Some, None, MatchOption, ⊤}
use Rattle.pf_base.specs.Walks.{HasNode, NoRepeats, IsWalk, BeginsAt, EndsAt}
use Rattle.pf_base.specs.Edges.{InReach, IsSuccessor, StepCosts, IsCheapestGoalPath}

module _ {N C : Type 0} (eq : N → N → Bool) (entry : N → Option (N × C)) where
  -- x has an entry
  abbrev pub HasEntry : N → Type 0
  HasEntry x = (parent : N) × (cost : C) × (entry x ≡ Some (parent, cost))

  -- the entry of x names this node as its parent
  abbrev pub IsParent : N → N → Type 0
  IsParent node x = (parent : N) × (cost : C) × (entry x ≡ Some (parent, cost)) × (eq parent node ≡ true)

  abbrev pub BeginsWithoutEntry : List N → Type 0
  BeginsWithoutEntry [] = ⊥
  BeginsWithoutEntry (a ∷ w) = entry a ≡ None

  -- the chain of parents of x: from a node without an entry to x, each node the parent of the next
  pub record IsChainOfParents (x : N) (path : List N) : Type 0 where
    pub begins : BeginsWithoutEntry path
    pub linked : IsWalk IsParent path
    pub ends : EndsAt eq (λ y. eq y x) path

  -- who follows parents from x meets no node twice: no nodes that lead to x, each the parent of the next, have a node twice among them
  abbrev pub MeetsNoneTwice : N → Type 0
  MeetsNoneTwice x = (path : List N) → IsWalk IsParent path → EndsAt eq (λ y. eq y x) path → NoRepeats eq path

-- the nodes that a search asked whether it has to stop there, where these came before the stopping one
abbrev pub asked_nodes : {N : Type 0} → List N → Option N → List N
asked_nodes before None = before
asked_nodes before (Some node) = before ++ node ∷ []

module _ {N : Type 0} (eq : N → N → Bool) (edges : N → List (N × ℤ)) (start : N) where
  -- a cheapest path from the start to x costs t
  abbrev pub IsLeastCost : N → ℤ → Type 0
  IsLeastCost x t = (path : List N) × IsCheapestGoalPath eq edges (start ∷ []) (λ y. eq y x) path t

  -- a cheapest path to x costs no more than one to y
  abbrev pub CostsNoMore : N → N → Type 0
  CostsNoMore x y = (s t : ℤ) → IsLeastCost x s → IsLeastCost y t → s ≤ℤ t

  -- no node costs more than one behind it
  abbrev pub RisesInCost : List N → Type 0
  RisesInCost [] = ⊤
  RisesInCost (x ∷ xs) = ((y : N) → HasNode eq xs y → CostsNoMore x y) × RisesInCost xs

  -- a path that costs t is no dearer than a cheapest one to the stopping node, if there is one
  abbrev pub CostsNoMoreThanStop : Option N → ℤ → Type 0
  CostsNoMoreThanStop None t = ⊤
  CostsNoMoreThanStop (Some node) t = (u : ℤ) × IsLeastCost node u × (t ≤ℤ u)

  -- the least cost of the parent and one step to x, by the cheapest parallel edge, sum to t
  pub record IsStepFrom (parent x : N) (t : ℤ) : Type 0 where
    pub cost : ℤ
    pub least : IsLeastCost parent cost
    pub price : ℤ
    pub step : StepCosts eq edges parent x price
    pub sum : t ≡ cost +ℤ price

  module _ {C : Type 0} (value : C → ℤ) (entry : N → Option (N × C)) where
    -- What a search of the whole reach maps.
    -- reached: exactly the nodes in reach save the start have an entry
    -- cheapest: each at the cost of a cheapest path
    -- behind: with a parent whose cost and one step give that cost
    -- no_ring, to_start: who follows parents meets no node twice, and from an entry ends at the start
    pub record IsCheapestMap : Type 0 where
      pub reached : (x : N) → HasEntry eq entry x ↔ (InReach eq edges (start ∷ []) x × (eq start x ≡ false))
      pub cheapest : (x parent : N) (cost : C) → entry x ≡ Some (parent, cost) → IsLeastCost x (value cost)
      pub behind : (x parent : N) (cost : C) → entry x ≡ Some (parent, cost) → IsStepFrom parent x (value cost)
      pub no_ring : (x : N) → MeetsNoneTwice eq entry x
      pub to_start : (x : N) (path : List N) → HasEntry eq entry x → IsChainOfParents eq entry x path → BeginsAt eq (start ∷ []) path

    -- What a search maps that ends at the first stopping node, if there is one.
    -- before: the nodes in reach that were asked and are none, in that order
    -- first, rising, none_skipped: the start is asked first, then nodes by rising cost, and none is left that is cheaper than one asked
    -- passed, stopped: the search ends at the first stopping node, or where all in reach were asked
    -- reached: exactly the nodes save the start to which a step leads from a node before the stopping one have an entry
    -- behind, least: a parent before the stopping node gives its cost and one step, and no node before the stopping one gives less
    -- cheapest: an entry that costs no more than the stopping node is that of a cheapest path
    -- no_ring, to_start: who follows parents meets no node twice, and from an entry ends at the start
    pub record IsPartialMap (test : N → Bool) (stop : Option N) : Type 0 where
      pub before : List N
      pub in_reach : (x : N) → HasNode eq (asked_nodes before stop) x → InReach eq edges (start ∷ []) x
      pub first : BeginsAt eq (start ∷ []) (asked_nodes before stop)
      pub rising : RisesInCost (asked_nodes before stop)
      pub none_skipped : (x y : N) → HasNode eq (asked_nodes before stop) x → ¬ (HasNode eq (asked_nodes before stop) y) → CostsNoMore x y
      pub passed : (x : N) → HasNode eq before x → test x ≡ false
      pub stopped : MatchOption stop ((x : N) → InReach eq edges (start ∷ []) x → HasNode eq before x) (λ node. test node ≡ true)
      pub reached : (x : N) → HasEntry eq entry x ↔ ((eq start x ≡ false) × ((node : N) × HasNode eq before node × IsSuccessor eq edges node x))
      pub behind : (x parent : N) (cost : C) → entry x ≡ Some (parent, cost) → HasNode eq before parent × IsStepFrom parent x (value cost)
      pub least : (x parent node : N) (cost : C) (t : ℤ) → entry x ≡ Some (parent, cost) → HasNode eq before node → IsStepFrom node x t → value cost ≤ℤ t
      pub cheapest : (x parent : N) (cost : C) → entry x ≡ Some (parent, cost) → CostsNoMoreThanStop stop (value cost) → IsLeastCost x (value cost)
      pub no_ring : (x : N) → MeetsNoneTwice eq entry x
      pub to_start : (x : N) (path : List N) → HasEntry eq entry x → IsChainOfParents eq entry x path → BeginsAt eq (start ∷ []) path
