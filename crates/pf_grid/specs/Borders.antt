-- The positions on the borders of a grid.
use Rattle.std.specs.Prelude.{ℕ, ◌+◌, Bool, ◌||◌, nat_eq, if◌then◌else◌}
use Rattle.pf_grid.specs.GridPositions.{Positions, has, with_vertices}

-- whether (x, y) is in the first or the last column, or in the first or the last row
abbrev pub is_border : Positions → ℕ → ℕ → Bool
is_border g x y = (nat_eq x 0 || nat_eq (x + 1) g.width) || (nat_eq y 0 || nat_eq (y + 1) g.height)

-- g with all positions on the borders, or without them
abbrev pub with_borders : Positions → Bool → Positions
with_borders g present = with_vertices g (λ x y. if is_border g x y then present else has g x y)
