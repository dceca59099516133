-- The moves of a sliding puzzle of three rows and three columns.
use Rattle.std.specs.Prelude.{ℕ, ◌+◌, ◌-◌, ◌%◌, ◌&&◌, nat_lt, if◌then◌else◌, List, [], ◌∷◌, Option, Some, None, slice_index, slice_set}
use Rattle.example_slide.specs.declared.slide.Tiles.{Tiles}

module _ (s : Tiles) where
  -- the tile at this cell moves into the gap, at a cost of 1
  abbrev pub slid_to : ℕ → Tiles
  slid_to cell = record { cells = slice_set (slice_set s.cells s.gap (slice_index s.cells cell)) cell 0; gap = cell }

  abbrev pub slid : ℕ → Option (Tiles × ℕ)
  slid cell = Some (slid_to cell, 1)

  -- the tile above the gap, on its right, below it or on its left moves into it, where there is one
  abbrev pub from_above : Option (Tiles × ℕ)
  from_above = if nat_lt 2 s.gap && nat_lt s.gap 9 then slid (s.gap - 3) else None

  abbrev pub from_right : Option (Tiles × ℕ)
  from_right = if nat_lt (s.gap % 3) 2 && nat_lt s.gap 9 then slid (s.gap + 1) else None

  abbrev pub from_below : Option (Tiles × ℕ)
  from_below = if nat_lt s.gap 6 then slid (s.gap + 3) else None

  abbrev pub from_left : Option (Tiles × ℕ)
  from_left = if nat_lt 0 (s.gap % 3) && nat_lt s.gap 9 then slid (s.gap - 1) else None

  -- what one move leads to
  abbrev pub moves_from : List (Option (Tiles × ℕ))
  moves_from = from_above ∷ from_right ∷ from_below ∷ from_left ∷ []
