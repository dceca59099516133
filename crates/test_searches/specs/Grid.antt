-- Steps over a board of heights, which stand row by row in one list.
use Rattle.std.specs.Prelude.{◌+◌, ◌*◌, ◌==◌, ◌&&◌, Bool, ℕ, ℤ, pos, negsuc, List, [], ◌∷◌, Option, None, Some, map, if◌then◌else◌, nat_le, slice_index}
use Rattle.std.specs.List.{filter_map}
use Rattle.std.specs.Option.{option_and_then, option_map}
use Rattle.pf_base.specs.Moves.{target_of}

-- whether two cells are one
abbrev pub same_cell : ℕ × ℕ → ℕ × ℕ → Bool
same_cell a b = a.0 == b.0 && a.1 == b.1

-- right, down, left, up
abbrev pub four_directions : List (ℤ × ℤ)
four_directions = (pos 0, pos 1) ∷ (pos 1, pos 0) ∷ (pos 0, negsuc 0) ∷ (negsuc 0, pos 0) ∷ []

module _ (heights : List ℕ) (dimensions : ℕ × ℕ) (bound : ℕ) where
  abbrev pub height_at : ℕ × ℕ → ℕ
  height_at cell = slice_index heights (cell.0 * dimensions.1 + cell.1)

  -- the cell that a step leads to, with its height as the cost, where it is on the board and at most as high as the bound
  abbrev pub entered : ℕ × ℕ → ℤ × ℤ → Option ((ℕ × ℕ) × ℕ)
  entered from direction = option_and_then (λ to. if nat_le (height_at to) bound then Some (to, height_at to) else None) (target_of from direction dimensions)

  -- the steps from a cell
  abbrev pub steps_from : ℕ × ℕ → List ((ℕ × ℕ) × ℤ)
  steps_from cell = map (λ (e : (ℕ × ℕ) × ℕ). (e.0, pos e.1)) (filter_map (entered cell) four_directions)

  -- the same without the costs
  abbrev pub entered_cell : ℕ × ℕ → ℤ × ℤ → Option (ℕ × ℕ)
  entered_cell from direction = option_map (λ (e : (ℕ × ℕ) × ℕ). e.0) (entered from direction)

  abbrev pub cells_from : ℕ × ℕ → List (ℕ × ℕ)
  cells_from cell = filter_map (entered_cell cell) four_directions
