-- The 15-puzzle: 16 tiles row by row, 0 the blank.
use Rattle.std.specs.Prelude.{◌+◌, ◌-◌, ◌/◌, ◌%◌, ◌&&◌, if◌then◌else◌, Bool, ℕ, ℤ, pos, zero, suc, List, [], ◌∷◌, Option, Some, None, map, nat_eq, nat_lt, slice_index, slice_set}
use Rattle.std.specs.Int.{abs_diff}
use Rattle.std.specs.Cmp.Lexicographic.{pointwise}
use Rattle.std.specs.List.{filter_map, position_or_len}
use Rattle.std.specs.Option.{option_and_then}

-- whether two states are one
abbrev pub same_tiles : List ℕ → List ℕ → Bool
same_tiles = pointwise nat_eq

abbrev pub solved_tiles : List ℕ
solved_tiles = 1 ∷ 2 ∷ 3 ∷ 4 ∷ 5 ∷ 6 ∷ 7 ∷ 8 ∷ 9 ∷ 10 ∷ 11 ∷ 12 ∷ 13 ∷ 14 ∷ 15 ∷ 0 ∷ []

-- up, down, left, right
abbrev pub four_moves : List ℕ
four_moves = 0 ∷ 1 ∷ 2 ∷ 3 ∷ []

-- the first place without a tile, or the number of places
abbrev pub blank_in : List ℕ → ℕ
blank_in tiles = position_or_len (λ t. nat_eq t 0) tiles

-- where the blank comes to
abbrev pub moved_blank : ℕ → ℕ → Option ℕ
moved_blank blank move = if nat_eq move 0 && nat_lt 3 blank then Some (blank - 4) else if nat_eq move 1 && nat_lt blank 12 then Some (blank + 4) else if nat_eq move 2 && nat_lt 0 (blank % 4) then Some (blank - 1) else if nat_eq move 3 && nat_lt (blank % 4) 3 then Some (blank + 1) else None

-- the tiles when one slides to the place of the blank, at the cost 1
abbrev pub slid_between : List ℕ → ℕ → ℕ → List ℕ × ℕ
slid_between tiles blank to = (slice_set (slice_set tiles blank (slice_index tiles to)) to 0, 1)

-- the same after a move of the blank from a place
abbrev pub slid_from : List ℕ → ℕ → ℕ → Option (List ℕ × ℕ)
slid_from tiles blank move = if nat_lt blank 16 then option_and_then (λ to. if nat_lt to 16 then Some (slid_between tiles blank to) else None) (moved_blank blank move) else None

abbrev pub slid : List ℕ → ℕ → Option (List ℕ × ℕ)
slid tiles = slid_from tiles (blank_in tiles)

-- the moves from a state, each with what it costs
abbrev pub moves_from : List ℕ → List (List ℕ × ℤ)
moves_from tiles = map (λ (e : List ℕ × ℕ). (e.0, pos e.1)) (filter_map (slid tiles) four_moves)

-- the rows and the columns from a place to that of a tile
abbrev pub tile_distance : ℕ → ℕ → ℕ
tile_distance place tile = if nat_eq tile 0 then 0 else abs_diff (place / 4) ((tile - 1) / 4) + abs_diff (place % 4) ((tile - 1) % 4)

-- the sum of the distances at the first places
abbrev pub distance_below : List ℕ → ℕ → ℕ
distance_below tiles zero = 0
distance_below tiles (suc n) = distance_below tiles n + tile_distance n (slice_index tiles n)
