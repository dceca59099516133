-- What answers a command.
use Rattle.std.specs.Prelude.{◌≡◌, ◌⊎◌, ◌+◌, ℕ, List, [], ◌∷◌, ◌++◌, length, string_bytes, codes}
use Rattle.std.specs.List.{flat_map}
use Rattle.std.specs.Fmt.{decimal}
use Rattle.pf_routes.specs.EdgeText.{Edge}
use Rattle.pf_routes.specs.FlowText.{IsFlowText}
use Rattle.pf_routes.specs.SpanningText.{AreSpanningLines}
use Rattle.pf_routes.specs.Roads.{HasNoWalk, IsCheapestPath, HasCostOverflow, IsFewestEdgesPath, AreCheapestPaths, HasEachPath, HasPathOverflow, HasRankedOverflow}
use Rattle.pf_routes.specs.declared.routes.commands.Command.{Command}
use Rattle.pf_routes.specs.declared.routes.commands.Command.TheVariants.{Dijkstra, Bfs, Kruskal, Yen, YenAll, Flow}

-- that there is no path
abbrev pub none_line : List ℕ
none_line = codes "none" ++ 10 ∷ []

-- a number and names, as `11: A B`
abbrev pub path_line : ℕ → List (List ℕ) → List ℕ
path_line number names = decimal number ++ codes ":" ++ flat_map (λ name. 32 ∷ name) names ++ 10 ∷ []

-- the line of some cheapest path
pub record IsPathLine (edges : List Edge) (from to text : List ℕ) : Type 0 where
  pub path : List (List ℕ)
  pub cost : ℕ
  pub cheapest : IsCheapestPath edges from to path cost
  pub written : text ≡ path_line cost path

-- the line of some cheapest path, or that there is none
abbrev pub IsPathAnswer : List Edge → List ℕ → List ℕ → List ℕ → Type 0
IsPathAnswer edges from to text = (HasNoWalk edges from to × (text ≡ none_line)) ⊎ IsPathLine edges from to text

-- the line of some path with fewest edges, and their number: a path has one name more than edges
pub record IsFewestEdgesLine (edges : List Edge) (from to text : List ℕ) : Type 0 where
  pub path : List (List ℕ)
  pub edge_count : ℕ
  pub fewest : IsFewestEdgesPath edges from to path
  pub counted : length path ≡ edge_count + 1
  pub written : text ≡ path_line edge_count path

-- the line of some path with fewest edges, or that there is none
abbrev pub IsFewestEdgesAnswer : List Edge → List ℕ → List ℕ → List ℕ → Type 0
IsFewestEdgesAnswer edges from to text = (HasNoWalk edges from to × (text ≡ none_line)) ⊎ IsFewestEdgesLine edges from to text

-- the line of a path with its cost
abbrev pub cost_line : List (List ℕ) × ℕ → List ℕ
cost_line path = path_line path.1 path.0

-- a line for each path, or that there is none
abbrev pub paths_text : List (List (List ℕ) × ℕ) → List ℕ
paths_text [] = none_line
paths_text (path ∷ paths) = flat_map cost_line (path ∷ paths)

-- the lines of the cheapest clean paths, at most so many
pub record AreCheapestPathLines (edges : List Edge) (from to : List ℕ) (count : ℕ) (text : List ℕ) : Type 0 where
  pub paths : List (List (List ℕ) × ℕ)
  pub cheapest : AreCheapestPaths edges from to count paths
  pub written : text ≡ paths_text paths

-- the lines of all clean paths
pub record AreAllPathLines (edges : List Edge) (from to text : List ℕ) : Type 0 where
  pub paths : List (List (List ℕ) × ℕ)
  pub cheapest : AreCheapestPaths edges from to (length paths) paths
  pub all : HasEachPath edges from to paths
  pub written : text ≡ paths_text paths

-- the text answers the command, asked of these edges
abbrev pub IsAnswer : Command → List Edge → List ℕ → Type 0
IsAnswer (Dijkstra from to) edges text = IsPathAnswer edges (string_bytes from) (string_bytes to) text
IsAnswer (Bfs from to) edges text = IsFewestEdgesAnswer edges (string_bytes from) (string_bytes to) text
IsAnswer Kruskal edges text = AreSpanningLines edges text
IsAnswer (Yen from to count) edges text = AreCheapestPathLines edges (string_bytes from) (string_bytes to) count text
IsAnswer (YenAll from to) edges text = AreAllPathLines edges (string_bytes from) (string_bytes to) text
IsAnswer (Flow from to) edges text = IsFlowText edges (string_bytes from) (string_bytes to) text

-- a sum of costs may be refused
abbrev pub Overflows : Command → List Edge → Type 0
Overflows (Dijkstra from to) edges = HasCostOverflow edges (string_bytes from) (string_bytes to)
Overflows (Bfs from to) edges = ⊥
Overflows Kruskal edges = ⊥
Overflows (Yen from to count) edges = HasRankedOverflow edges (string_bytes from) (string_bytes to) count
Overflows (YenAll from to) edges = HasPathOverflow edges (string_bytes from) (string_bytes to)
Overflows (Flow from to) edges = ⊥
