-- Graphs over numbers. What leads from a node stands at its places: at each an edge, as the node that it leads to and its cost, or nothing.
use Rattle.std.specs.Prelude.{◌≡◌, ◌<◌, ◌≤ℤ◌, ◌+◌, ◌-◌, ℕ, ℤ, pos, nat_lt, if◌then◌else◌, List, [], ◌∷◌, Option, Some, None, map, take, drop, slice_get, slice_index}
use Rattle.std.specs.Option.{option_map_or}

-- the edge stands at this place
abbrev pub HasEdgeAt : {C : Type 0} → List (Option (ℕ × C)) → ℕ → ℕ × C → Type 0
HasEdgeAt places place edge = slice_get places place ≡ Some (Some edge)

-- each edge of a node leads to a node, and none costs less than 0
pub record IsGraph {C : Type 0} (value : C → ℤ) (size : ℕ) (places : ℕ → List (Option (ℕ × C))) : Type 0 where
  pub inside : (node place : ℕ) (edge : ℕ × C) → node < size → HasEdgeAt (places node) place edge → edge.0 < size
  pub from_zero : (node place : ℕ) (edge : ℕ × C) → node < size → HasEdgeAt (places node) place edge → pos 0 ≤ℤ value edge.1

-- what stands at places
abbrev pub present : {E : Type 0} → List (Option E) → List E
present [] = []
present (None ∷ places) = present places
present (Some edge ∷ places) = edge ∷ present places

-- the edges at the places, in order, each with the whole number that it costs
abbrev pub edges_at : {C : Type 0} → (C → ℤ) → List (Option (ℕ × C)) → List (ℕ × ℤ)
edges_at value [] = []
edges_at value (None ∷ places) = edges_at value places
edges_at value (Some edge ∷ places) = (edge.0, value edge.1) ∷ edges_at value places

-- the edges of each node of the graph, and none elsewhere
abbrev pub graph_of : {C : Type 0} → (C → ℤ) → ℕ → (ℕ → List (Option (ℕ × C))) → ℕ → List (ℕ × ℤ)
graph_of value size places node = if nat_lt node size then edges_at value (places node) else []

-- an edge at each place
abbrev pub filled : {C : Type 0} → List (ℕ × C) → List (Option (ℕ × C))
filled edges = map (λ edge. Some edge) edges

-- the edges from the number `first` on, up to the number `end`, which is not among them
abbrev pub part : {E : Type 0} → ℕ → ℕ → List E → List E
part first end edges = take (end - first) (drop first edges)

-- the row of a node, where each row is a list as `items` says; no edges where there is no row
abbrev pub row_of : {X E : Type 0} → (X → List E) → List X → ℕ → List E
row_of items rows node = option_map_or items (slice_get rows node) []

-- the edges between the offset of a node and the next one
abbrev pub between : {E : Type 0} → List ℕ → List E → ℕ → List E
between offsets edges node = part (slice_index offsets node) (slice_index offsets (node + 1)) edges

-- the nodes that follow each node of the graph, and none elsewhere
abbrev pub successors_of : {C : Type 0} → (C → ℤ) → ℕ → (ℕ → List (Option (ℕ × C))) → ℕ → List ℕ
successors_of value size places node = map (λ (e : ℕ × ℤ). e.0) (graph_of value size places node)
