-- The graph over names that a list of edges stands for. Names are strings of bytes, the same where their bytes are.
use Rattle.std.specs.Prelude.{◌≡◌, ◌<◌, ℕ, ℤ, pos, List, ◌∷◌, [], filter, map}
use Rattle.std.specs.Str.{bytes_eq}
use Rattle.pf_base.specs.Walks.{HasNoGoalWalk}
use Rattle.pf_base.specs.Edges.{IsSuccessor, IsCheapestGoalPath, CostOverflows}
use Rattle.pf_base.specs.Successors.{IsFewestEdgesGoalPath}
use Rattle.pf_yen.specs.CleanPaths.{PathOverflows, AllGiven}
use Rattle.pf_yen.specs.KCheapest.{IsKCheapest}
use Rattle.std.specs.Int.{FitsUnsignedBits}
use Rattle.pf_routes.specs.EdgeText.{Edge}

-- the edges that leave a name, in order, each as the name that it leads to and its cost
abbrev pub edges_from : List Edge → List ℕ → List (List ℕ × ℤ)
edges_from edges name = map (λ e. (e.to, pos e.cost)) (filter (λ e. bytes_eq e.from name) edges)

-- the names that those edges lead to, in the same order
abbrev pub targets_from : List Edge → List ℕ → List (List ℕ)
targets_from edges name = map (λ (e : List ℕ × ℤ). e.0) (edges_from edges name)

module _ (edges : List Edge) (from to : List ℕ) where
  -- no walk leads from one name to the other
  abbrev pub HasNoWalk : Type 0
  HasNoWalk = HasNoGoalWalk bytes_eq (IsSuccessor bytes_eq (edges_from edges)) (from ∷ []) (λ name. bytes_eq name to)

  -- a path from one name to the other that costs this, and no walk costs less
  abbrev pub IsCheapestPath : List (List ℕ) → ℕ → Type 0
  IsCheapestPath path cost = IsCheapestGoalPath bytes_eq (edges_from edges) (from ∷ []) (λ name. bytes_eq name to) path (pos cost)

  -- a cheapest path and one step more cost 2^64 or more, and no walk from one name to the other is cheaper than that path
  abbrev pub HasCostOverflow : Type 0
  HasCostOverflow = CostOverflows bytes_eq (edges_from edges) (from ∷ []) (λ name. bytes_eq name to) (FitsUnsignedBits 64)

  -- a path from one name to the other, and no walk has fewer edges
  abbrev pub IsFewestEdgesPath : List (List ℕ) → Type 0
  IsFewestEdgesPath path = IsFewestEdgesGoalPath bytes_eq (targets_from edges) (from ∷ []) (λ name. bytes_eq name to) path

  -- the cheapest clean paths from one name to the other, at most so many, by rising cost, and of equal cost by rising number of names
  abbrev pub AreCheapestPaths : ℕ → List (List (List ℕ) × ℕ) → Type 0
  AreCheapestPaths count paths = IsKCheapest bytes_eq (edges_from edges) from (λ name. bytes_eq name to) (λ cost. pos cost) count paths

  -- each clean path from one name to the other is one of these
  abbrev pub HasEachPath : List (List (List ℕ) × ℕ) → Type 0
  HasEachPath paths = AllGiven bytes_eq (edges_from edges) from (λ name. bytes_eq name to) (λ cost. pos cost) paths

  -- a path without a name twice, and without the end, and one step more cost 2^64 or more
  abbrev pub HasPathOverflow : Type 0
  HasPathOverflow = PathOverflows bytes_eq (edges_from edges) from (λ name. bytes_eq name to) (FitsUnsignedBits 64)

  -- Paths were asked for, and a path without a name twice, and without the end, and one step more cost 2^64 or more. Where one path was asked for, that path is a cheapest one, and no walk from one name to the other is cheaper.
  pub record HasRankedOverflow (count : ℕ) : Type 0 where
    pub asked : 0 < count
    pub past : HasPathOverflow
    pub first : count ≡ 1 → HasCostOverflow
