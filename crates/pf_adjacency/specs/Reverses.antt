-- Tables whose edges are turned round.
use Rattle.std.specs.Prelude.{ℕ, zero, suc, ℤ, List, [], ◌++◌, Option, map, nat_eq}
use Rattle.pf_base.specs.Edges.{HasEdge}
use Rattle.pf_tables.specs.Graphs.{present}
use Rattle.pf_adjacency.specs.NumberedEdges.{IsLaidOut}

module _ {C : Type 0} where
  -- the edges at the places of a node, in order, each turned round: it comes from the node that it leads to, and leads to this one
  abbrev pub turned_row : ℕ → List (Option (ℕ × C)) → List (ℕ × ℕ × C)
  turned_row node places = map (λ (e : ℕ × C). (e.0, node, e.1)) (present places)

  -- the turned edges of the nodes below a number, node by node
  abbrev pub turned_below : (ℕ → List (Option (ℕ × C))) → ℕ → List (ℕ × ℕ × C)
  turned_below places zero = []
  turned_below places (suc node) = turned_below places node ++ turned_row node (places node)

  -- the offsets and targets are those of the table with each edge turned round
  abbrev pub IsReverse : ℕ → (ℕ → List (Option (ℕ × C))) → List ℕ × List (ℕ × C) → Type 0
  IsReverse size places graph = IsLaidOut size (turned_below places size) graph

-- an edge of some cost leads from a to b exactly where one of that cost leads back from b to a
pub record IsTurnedRound (edges back : ℕ → List (ℕ × ℤ)) : Type 0 where
  pub precedes : (a b : ℕ) (z : ℤ) → HasEdge nat_eq (edges a) b z → HasEdge nat_eq (back b) a z
  pub follows : (a b : ℕ) (z : ℤ) → HasEdge nat_eq (back b) a z → HasEdge nat_eq (edges a) b z

-- what a table with its edges in both directions is seen as: the table, and the turned edges
pub record TableBothWays (C G : Type 0) : Type 0 where
  pub forth : G
  pub back : List ℕ × List (ℕ × C)
