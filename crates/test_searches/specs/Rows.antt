-- The graph of a table: a node is the place of its row, and its row lists the edges from it.
use Rattle.std.specs.Prelude.{ℕ, ℤ, pos, Vec, List, [], map, slice_get}
use Rattle.std.specs.Option.{option_map_or}
use Rattle.std.specs.declared.alloc.Global.{Global}

-- the edges in the row at n, each with the whole number that it costs; none where there is no row
abbrev pub edges_of : List (Vec (ℕ × ℕ) Global) → ℕ → List (ℕ × ℤ)
edges_of rows n = map (λ (e : ℕ × ℕ). (e.0, pos e.1)) (option_map_or (λ (row : Vec (ℕ × ℕ) Global). row.items) (slice_get rows n) [])

-- the nodes in the row at n, of a table without costs
abbrev pub nodes_after : List (Vec ℕ Global) → ℕ → List ℕ
nodes_after rows n = option_map_or (λ (row : Vec ℕ Global). row.items) (slice_get rows n) []
