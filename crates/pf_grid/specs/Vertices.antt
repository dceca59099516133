-- The vertices of a grid one after another, by rows, and grids of vertices that are listed.
use Rattle.std.specs.Prelude.{ℕ, ◌+◌, ◌-◌, ◌*◌, ◌/◌, ◌%◌, ◌^◌, ◌≤◌, Bool, false, List, [], ◌∷◌, map, max}
use Rattle.std.specs.List.{range_with_len, filter, list_any}
use Rattle.pf_grid.specs.GridPositions.{Positions, grid_of, has, is_position}
use Rattle.pf_matrix.specs.Tables.{Table, value_at}

-- the position at a place, where the places are counted by rows
abbrev pub position_of : ℕ → ℕ → ℕ × ℕ
position_of width k = (k % width, k / width)

-- all positions inside, the row of y = 0 first
unfoldable pub places : ℕ → ℕ → List (ℕ × ℕ)
places width height = map (position_of width) (range_with_len 0 (width * height))

-- the vertices at the place k and at those after it, by rows
unfoldable pub vertices_from : Positions → ℕ → List (ℕ × ℕ)
vertices_from g k = filter (λ p. has g p.0 p.1) (map (position_of g.width) (range_with_len k (g.width * g.height - k)))

-- all vertices, by rows
abbrev pub vertices_of : Positions → List (ℕ × ℕ)
vertices_of g = vertices_from g 0

-- whether (x, y) is in the list
abbrev pub listed : List (ℕ × ℕ) → ℕ → ℕ → Bool
listed ps x y = list_any (λ p. is_position p x y) ps

-- the least size above this coordinate of each of the positions
abbrev pub extent : (ℕ × ℕ → ℕ) → List (ℕ × ℕ) → ℕ
extent at [] = 0
extent at (p ∷ ps) = max (at p + 1) (extent at ps)

abbrev pub width_of : List (ℕ × ℕ) → ℕ
width_of ps = extent (λ p. p.0) ps

abbrev pub height_of : List (ℕ × ℕ) → ℕ
height_of ps = extent (λ p. p.1) ps

-- the smallest grid that reaches all of the positions, which are its vertices
abbrev pub smallest : List (ℕ × ℕ) → Positions
smallest ps = grid_of (width_of ps) (height_of ps) false (listed ps)

-- that grid has more positions than fit 64 bits
abbrev pub IsTooLarge : List (ℕ × ℕ) → Type 0
IsTooLarge ps = 2 ^ 64 ≤ width_of ps * height_of ps

-- the grid of a table of truth values: its vertices are the positions (x, y) at which the row y and the column x of the table have `true`
abbrev pub of_table : Table Bool → Positions
of_table m = grid_of m.columns m.rows false (λ x y. value_at m y x false)

-- P holds of the positions that are given
pub record OfGiven {I : Type 0} (gives : I → List (ℕ × ℕ) → Type 0) (given : I) (P : List (ℕ × ℕ) → Type 0) : Type 0 where
  pub positions : List (ℕ × ℕ)
  pub all : gives given positions
  pub holds : P positions
