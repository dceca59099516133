-- Graphs whose edges have no costs, taken as graphs in which each edge costs 1.
use Rattle.std.specs.Prelude.{ℤ, pos, List, map}
use Rattle.pf_core.specs.Nodes.{NodeGraph}

-- an edge to each node that follows, at cost 1
abbrev pub unit_edges : {N : Type 0} → (N → List N) → N → List (N × ℤ)
unit_edges next x = map (λ y. (y, pos 1)) (next x)

-- these starts and successors, with the cost 1 at each edge
abbrev pub hops_from : {N : Type 0} → List N → (N → List N) → NodeGraph N
hops_from starts next = record { starts = starts; edges = unit_edges next }
