-- Positions of a table: all of them by rows, and those around one.
use Rattle.std.specs.Prelude.{ℕ, ◌+◌, ◌-◌, ◌*◌, ◌/◌, ◌%◌, Bool, ◌&&◌, ◌||◌, nat_lt, not, Option, Some, None, if◌then◌else◌, List, [], ◌∷◌, map}
use Rattle.std.specs.List.{range_with_len, zip, filter_map}
use Rattle.std.specs.Option.{option_zip}
use Rattle.pf_base.specs.Shifts.{is_diagonal}
use Rattle.pf_matrix.specs.Tables.{Table}
use Rattle.pf_base.specs.declared.shift.Shift.{Shift}
use Rattle.pf_base.specs.declared.shift.Shift.TheVariants.{Before, Same, After}

-- the positions of a table of these sizes, the first row first
unfoldable pub positions : ℕ → ℕ → List (ℕ × ℕ)
positions rows columns = map (λ k. (k / columns, k % columns)) (range_with_len 0 (rows * columns))

-- the positions of a table
abbrev pub positions_of : {C : Type 0} → Table C → List (ℕ × ℕ)
positions_of m = positions m.rows m.columns

-- each position with its value, the first row first
abbrev pub items_of : {C : Type 0} → Table C → List ((ℕ × ℕ) × C)
items_of m = zip (positions_of m) m.values

-- the place before, the same place, or the place after, among n places
abbrev pub shifted : ℕ → ℕ → Shift → Option ℕ
shifted n at Before = if nat_lt 0 at then Some (at - 1) else None
shifted n at Same = Some at
shifted n at After = if nat_lt (at + 1) n then Some (at + 1) else None

-- the position that two shifts from (r, c) lead to, if it is inside and diagonal steps are allowed or it is none
abbrev pub neighbour_at : ℕ → ℕ → ℕ → ℕ → Bool → Shift × Shift → Option (ℕ × ℕ)
neighbour_at rows columns r c diagonals to = if diagonals || not (is_diagonal to) then option_zip (shifted rows r to.0) (shifted columns c to.1) else None

-- the eight ways to go, by rows
abbrev pub around : List (Shift × Shift)
around = (Before, Before) ∷ (Before, Same) ∷ (Before, After) ∷ (Same, Before) ∷ (Same, After) ∷ (After, Before) ∷ (After, Same) ∷ (After, After) ∷ []

-- the positions around (r, c), by rows; none around a position outside
abbrev pub neighbours_of : ℕ → ℕ → ℕ → ℕ → Bool → List (ℕ × ℕ)
neighbours_of rows columns r c diagonals = if nat_lt r rows && nat_lt c columns then filter_map (neighbour_at rows columns r c diagonals) around else []
