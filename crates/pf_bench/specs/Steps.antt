-- The steps of the inputs: over a square board of heights, which stand row by row in one list, and in rows of edges.
use Rattle.std.specs.Prelude.{◌+◌, ◌-◌, ◌*◌, ◌%◌, ◌^◌, ◌==◌, ◌&&◌, if◌then◌else◌, Bool, ℕ, ℤ, pos, negsuc, List, [], ◌∷◌, Option, Some, None, map, min, nat_lt, take, drop, slice_index, slice_index_or}
use Rattle.std.specs.Int.{abs_diff, cast_unsigned, w64}
use Rattle.std.specs.List.{filter_map}
use Rattle.std.specs.Option.{option_map, option_zip}

-- whether two cells are one
abbrev pub same_cell : ℕ × ℕ → ℕ × ℕ → Bool
same_cell a b = a.0 == b.0 && a.1 == b.1

-- the rows and the columns between two cells, as far as 32 bits hold the sum
abbrev pub steps_between : ℕ × ℕ → ℕ × ℕ → ℕ
steps_between a b = min (abs_diff a.0 b.0 + abs_diff a.1 b.1) (2 ^ 32 - 1)

-- right, down, left, up
abbrev pub four_directions : List (ℤ × ℤ)
four_directions = (pos 0, pos 1) ∷ (pos 1, pos 0) ∷ (pos 0, negsuc 0) ∷ (negsuc 0, pos 0) ∷ []

-- the coordinate that a step leads to, modulo 2 ^ 64, where it is below the size
abbrev pub moved_to : ℕ → ℤ → ℕ → Option ℕ
moved_to from step size = let to = (from + cast_unsigned w64 step) % 2 ^ 64 in if nat_lt to size then Some to else None

-- the cell that a step leads to, where it is on the board
abbrev pub entered_cell : ℕ → ℕ × ℕ → ℤ × ℤ → Option (ℕ × ℕ)
entered_cell size from direction = option_zip (moved_to from.0 direction.0 size) (moved_to from.1 direction.1 size)

-- the same cell, with its height
abbrev pub entered : List ℕ → ℕ → ℕ × ℕ → ℤ × ℤ → Option ((ℕ × ℕ) × ℕ)
entered heights size from direction = option_map (λ (to : ℕ × ℕ). (to, slice_index heights (to.0 * size + to.1))) (entered_cell size from direction)

-- the height of a cell, and 0 off the board
abbrev pub height_of : List ℕ → ℕ → ℕ × ℕ → ℕ
height_of heights size cell = slice_index_or heights ((cell.0 * size % 2 ^ 64 + cell.1) % 2 ^ 64) 0

-- the cell that a step leads to, with the sum of the heights of both cells
abbrev pub crossed : List ℕ → ℕ → ℕ × ℕ → ℤ × ℤ → Option ((ℕ × ℕ) × ℕ)
crossed heights size from direction = option_map (λ (to : ℕ × ℕ). (to, height_of heights size from + height_of heights size to)) (entered_cell size from direction)

-- the steps from a cell, each with that sum
abbrev pub crossings_from : List ℕ → ℕ → ℕ × ℕ → List ((ℕ × ℕ) × ℤ)
crossings_from heights size cell = map (λ (e : (ℕ × ℕ) × ℕ). (e.0, pos e.1)) (filter_map (crossed heights size cell) four_directions)

-- the steps from a cell, each with what it costs
abbrev pub steps_from : List ℕ → ℕ → ℕ × ℕ → List ((ℕ × ℕ) × ℤ)
steps_from heights size cell = map (λ (e : (ℕ × ℕ) × ℕ). (e.0, pos e.1)) (filter_map (entered heights size cell) four_directions)

-- the cells that they lead to
abbrev pub cells_from : ℕ → ℕ × ℕ → List (ℕ × ℕ)
cells_from size cell = filter_map (entered_cell size cell) four_directions

-- what stands between the offsets of a node
abbrev pub row_of : List ℕ → List (ℕ × ℕ) → ℕ → List (ℕ × ℕ)
row_of offsets edges n = take (slice_index offsets (n + 1) - slice_index offsets n) (drop (slice_index offsets n) edges)

-- where the edges of a node lead
abbrev pub ends_after : List ℕ → List (ℕ × ℕ) → ℕ → List ℕ
ends_after offsets edges n = map (λ (e : ℕ × ℕ). e.0) (row_of offsets edges n)
