-- How far two positions of a board are apart.
use Rattle.std.specs.Prelude.{◌+◌, ◌-◌, ◌^◌, ◌==◌, ◌&&◌, Bool, ℕ, min}
use Rattle.std.specs.Int.{abs_diff}

-- whether two positions are one
abbrev pub same_position : ℕ × ℕ → ℕ × ℕ → Bool
same_position a b = a.0 == b.0 && a.1 == b.1

-- the Manhattan distance: the rows and the columns between two positions, as far as the sum fits a machine word
abbrev pub manhattan_distance : ℕ × ℕ → ℕ × ℕ → ℕ
manhattan_distance a b = min (abs_diff a.0 b.0 + abs_diff a.1 b.1) (2 ^ 64 - 1)
