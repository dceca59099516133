-- Distances between positions.
use Rattle.std.specs.Prelude.{ℕ, ◌+◌, ◌-◌, Bool, if◌then◌else◌, max}

-- the greater number less the smaller one
abbrev pub difference : ℕ → ℕ → ℕ
difference a b = max (a - b) (b - a)

-- with diagonal steps the greater difference, else the sum of both
abbrev pub distance_between : Bool → ℕ × ℕ → ℕ × ℕ → ℕ
distance_between diagonal a b = if diagonal then max (difference a.0 b.0) (difference a.1 b.1) else difference a.0 b.0 + difference a.1 b.1
