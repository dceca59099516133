use Rattle.std.proofs.Common.{◌≡◌, take}
use Rattle.pf_grid.specs.Coordinates.{least_with, numbers_of}
use Rattle.pf_grid.proofs.grid.from_coordinates.least_of.Given as goal

-- the least coordinates of the first point and of those so far
abbrev pub invariant-loop-point : goal.invariant-loop-point
invariant-loop-point g l =
    record {
      across : g.T.Coordinate.value l.x ≡ least_with (λ p. p.0) (g.T.Coordinate.value l.initial.x) (numbers_of g.T.Coordinate.value (take l.point-index l.rest));
      down : g.T.Coordinate.value l.y ≡ least_with (λ p. p.1) (g.T.Coordinate.value l.initial.y) (numbers_of g.T.Coordinate.value (take l.point-index l.rest));
    }
