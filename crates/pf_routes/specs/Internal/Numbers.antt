-- The graph of numbered nodes that links stand for.
use Rattle.std.specs.Prelude.{ℕ, ℤ, pos, nat_eq, List, [], ◌∷◌, map, ◌==◌}
use Rattle.pf_base.specs.Walks.{HasNoGoalWalk}
use Rattle.pf_base.specs.Edges.{IsSuccessor, IsCheapestGoalPath, CostOverflows}
use Rattle.pf_base.specs.Successors.{IsFewestEdgesGoalPath}
use Rattle.pf_yen.specs.CleanPaths.{PathOverflows}
use Rattle.pf_yen.specs.KCheapest.{IsKCheapest}
use Rattle.std.specs.Int.{FitsUnsignedBits}
use Rattle.pf_routes.specs.Internal.Graph.{row_of}

-- steps as edges
abbrev pub edges_of : List (ℕ × ℕ) → List (ℕ × ℤ)
edges_of steps = map (λ (s : ℕ × ℕ). (s.0, pos s.1)) steps

module _ (graph : List ℕ × List (ℕ × ℕ)) (from to : ℕ) where
  abbrev pub numbered_edges : ℕ → List (ℕ × ℤ)
  numbered_edges n = edges_of (row_of graph n)

  abbrev pub numbered_successors : ℕ → List ℕ
  numbered_successors n = map (λ (e : ℕ × ℤ). e.0) (numbered_edges n)

  abbrev pub HasNoNumberedWalk : Type 0
  HasNoNumberedWalk = HasNoGoalWalk nat_eq (IsSuccessor nat_eq numbered_edges) (from ∷ []) (λ n. n == to)

  abbrev pub IsCheapestNumberedPath : List ℕ → ℕ → Type 0
  IsCheapestNumberedPath path cost = IsCheapestGoalPath nat_eq numbered_edges (from ∷ []) (λ n. n == to) path (pos cost)

  abbrev pub HasNumberedOverflow : Type 0
  HasNumberedOverflow = CostOverflows nat_eq numbered_edges (from ∷ []) (λ n. n == to) (FitsUnsignedBits 64)

  abbrev pub IsFewestEdgesNumberedPath : List ℕ → Type 0
  IsFewestEdgesNumberedPath path = IsFewestEdgesGoalPath nat_eq numbered_successors (from ∷ []) (λ n. n == to) path

  abbrev pub AreCheapestNumberedPaths : ℕ → List (List ℕ × ℕ) → Type 0
  AreCheapestNumberedPaths count paths = IsKCheapest nat_eq numbered_edges from (λ n. n == to) (λ cost. pos cost) count paths

  abbrev pub HasNumberedPathOverflow : Type 0
  HasNumberedPathOverflow = PathOverflows nat_eq numbered_edges from (λ n. n == to) (FitsUnsignedBits 64)
