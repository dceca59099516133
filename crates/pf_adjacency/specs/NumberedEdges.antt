-- Edges between nodes, each as the node that it comes from, the one that it leads to and its cost, and graphs that are laid out from them.
use Rattle.std.specs.Prelude.{◌≡◌, ◌<◌, ◌≤ℤ◌, ◌+◌, ℕ, ℤ, pos, Bool, List, Some, None, if◌then◌else◌, length, nat_eq, slice_get}
use Rattle.std.specs.List.{filter_map}
use Rattle.pf_tables.specs.Graphs.{between}

-- the edges that come from x, in the order of the list, each as the node that it leads to and its cost
abbrev pub ends_from : {N C : Type 0} → (N → N → Bool) → List (N × N × C) → N → List (N × C)
ends_from {N} {C} eq edges x = filter_map (λ (e : N × N × C). if eq e.0 x then Some (e.1, e.2) else None) edges

module _ {C : Type 0} (value : C → ℤ) (size : ℕ) where
  -- the edge comes from a node and leads to a node, and costs no less than 0
  pub record IsSoundEdge (edge : ℕ × ℕ × C) : Type 0 where
    pub source : edge.0 < size
    pub target : edge.1 < size
    pub from_zero : pos 0 ≤ℤ value edge.2

  -- each edge of a list is sound
  abbrev pub AreSoundEdges : List (ℕ × ℕ × C) → Type 0
  AreSoundEdges edges = (number : ℕ) (edge : ℕ × ℕ × C) → slice_get edges number ≡ Some edge → IsSoundEdge edge

-- The offsets and targets are laid out from the edges: there are so many nodes, and the row of each has the edges that come from it, in the order of the list.
pub record IsLaidOut {C : Type 0} (nodes : ℕ) (edges : List (ℕ × ℕ × C)) (graph : List ℕ × List (ℕ × C)) : Type 0 where
  pub size : length graph.0 ≡ nodes + 1
  pub rows : (n : ℕ) → n < nodes → between graph.0 graph.1 n ≡ ends_from nat_eq edges n
