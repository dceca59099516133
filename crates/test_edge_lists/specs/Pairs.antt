-- The graph of a list of edges (from, to), from both ends.
use Rattle.std.specs.Prelude.{Bool, List}
use Rattle.test_edge_lists.specs.Chosen.{chosen}

module _ {N : Type 0} (eq : N → N → Bool) (edges : List (N × N)) where
  -- where the edges from n lead, in the order of the list
  abbrev pub nodes_after : N → List N
  nodes_after = chosen eq (λ (e : N × N). e.0) (λ (e : N × N). e.1) edges

  -- where the edges to n come from, in the order of the list
  abbrev pub nodes_before : N → List N
  nodes_before = chosen eq (λ (e : N × N). e.1) (λ (e : N × N). e.0) edges
