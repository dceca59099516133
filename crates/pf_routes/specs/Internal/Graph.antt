-- What a graph of numbered nodes shows: its offsets and its steps.
use Rattle.std.specs.Prelude.{ℕ, ◌-◌, List, length}
use Rattle.pf_tables.specs.Graphs.{between}

abbrev pub node_count : List ℕ × List (ℕ × ℕ) → ℕ
node_count graph = length graph.0 - 1

-- the steps from a node
abbrev pub row_of : List ℕ × List (ℕ × ℕ) → ℕ → List (ℕ × ℕ)
row_of graph node = between graph.0 graph.1 node
