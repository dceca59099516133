-- Rows of edges: for each vertex the edges to other vertices, sorted by the other end.
use Rattle.std.specs.Prelude.{ℕ, ℤ, pos, Bool, true, false, List, [], ◌∷◌, map, nat_eq, slice_index_or, if◌then◌else◌}
use Rattle.pf_residual.specs.declared.sparse_row.Edge.{Edge}

-- the other ends of a row
abbrev pub ends : {C : Type 0} → List (Edge C) → List ℕ
ends row = map (λ e. e.to) row

-- whether a vertex is among them
abbrev pub has_end : List ℕ → ℕ → Bool
has_end [] b = false
has_end (x ∷ xs) b = if nat_eq x b then true else has_end xs b

-- a number of the edge to b, or 0 where the row has no such edge
abbrev pub amount_to : {C : Type 0} → (Edge C → ℤ) → List (Edge C) → ℕ → ℤ
amount_to f [] b = pos 0
amount_to f (e ∷ es) b = if nat_eq e.to b then f e else amount_to f es b

-- the row of a vertex
abbrev pub row_at : {X : Type 0} → List (List X) → ℕ → List X
row_at rows a = slice_index_or rows a []
