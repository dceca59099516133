-- Greatest flows and least cuts as text.
use Rattle.std.specs.Prelude.{◌≡◌, ℕ, pos, List, ◌∷◌, [], ◌++◌, map, ⊤}
use Rattle.std.specs.Fmt.{decimal}
use Rattle.std.specs.List.{flat_map}
use Rattle.std.specs.Str.{bytes_eq}
use Rattle.pf_flow.specs.Networks.{Network}
use Rattle.pf_flow.specs.NamedNetworks.{names_of, IsAnswer}
use Rattle.pf_routes.specs.EdgeLine.{edge_line}
use Rattle.pf_routes.specs.EdgeText.{Edge}

-- the names of an edge
abbrev pub ends_of : Edge → List (List ℕ)
ends_of e = e.from ∷ e.to ∷ []

-- the two names of a command and those of the edges, each once, in the order in which they first stand
abbrev pub flow_names : List ℕ → List ℕ → List Edge → List (List ℕ)
flow_names from to edges = names_of bytes_eq (from ∷ to ∷ flat_map ends_of edges)

-- an edge whose cost is the capacity from one name to the other
abbrev pub capacity_of : Edge → (List ℕ × List ℕ) × ℕ
capacity_of e = ((e.from, e.to), e.cost)

-- the line of a capacity from one name to another
abbrev pub capacity_line : (List ℕ × List ℕ) × ℕ → List ℕ
capacity_line e = edge_line e.0.0 e.0.1 e.1

-- The total of a greatest flow from one name to the other, and a line for each edge of a least cut, by rising pair of numbers. The number of a name is its place among the names. The capacities are the costs of the edges, of a pair of names that of its last edge.
pub record IsFlowText (edges : List Edge) (from to text : List ℕ) : Type 0 where
  pub carried : List ((List ℕ × List ℕ) × ℕ)
  pub total : ℕ
  pub leaving : List ((List ℕ × List ℕ) × ℕ)
  pub network : Network
  pub answered : IsAnswer bytes_eq (λ capacity. pos capacity) (flow_names from to edges) (λ sum. ⊤) from to (map capacity_of edges) carried (pos total) leaving network
  pub written : text ≡ decimal total ++ 10 ∷ flat_map capacity_line leaving
