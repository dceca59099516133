-- Rings of nodes.
use Rattle.std.specs.Prelude.{◌+◌, ℕ, ℤ, pos, nat_lt, if◌then◌else◌, List, [], ◌∷◌, Option, Some}
use Rattle.pf_tables.specs.Graphs.{graph_of}

-- what stands at the one place of a node: the edge to the next node, and from the last one to the node 0, at cost 1
abbrev pub ring_places : ℕ → ℕ → List (Option (ℕ × ℕ))
ring_places nodes node = Some (if nat_lt (node + 1) nodes then node + 1 else 0, 1) ∷ []

-- the edges of each node of a ring of so many nodes
abbrev pub ring_edges : ℕ → ℕ → List (ℕ × ℤ)
ring_edges nodes = graph_of (λ cost. pos cost) nodes (ring_places nodes)
