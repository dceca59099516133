-- Spanning edges as text.
use Rattle.std.specs.Prelude.{◌≡◌, ℕ, List, map, Contains}
use Rattle.std.specs.List.{flat_map}
use Rattle.std.specs.List.Sorted.{IsSorted}
use Rattle.std.specs.Ordering.{nat_cmp}
use Rattle.std.specs.Str.{bytes_eq}
use Rattle.pf_graph.specs.Spanning.{IsForest, IsLeastUnderEveryBound}
use Rattle.pf_routes.specs.EdgeLine.{edge_line}
use Rattle.pf_routes.specs.EdgeText.{Edge}

-- an edge as its two names and its cost
abbrev pub weighed_edge : Edge → List ℕ × List ℕ × ℕ
weighed_edge e = (e.from, e.to, e.cost)

-- a line for each of some spanning edges of least weight
pub record AreSpanningLines (edges : List Edge) (text : List ℕ) : Type 0 where
  pub chosen : List Edge
  pub given : (e : Edge) → Contains chosen e → Contains edges e
  pub forest : IsForest bytes_eq (map weighed_edge chosen)
  pub least : IsLeastUnderEveryBound bytes_eq nat_cmp (map weighed_edge edges) (map weighed_edge chosen)
  pub sorted : IsSorted (λ e f. nat_cmp e.cost f.cost) chosen
  pub written : text ≡ flat_map (λ (e : Edge). edge_line e.from e.to e.cost) chosen
