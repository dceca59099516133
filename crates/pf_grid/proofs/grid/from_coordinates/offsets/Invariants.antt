use Rattle.std.proofs.Common.{◌≡◌, Some, take}
use Rattle.pf_grid.specs.Coordinates.{numbers_of, positions_from}
use Rattle.pf_grid.proofs.grid.from_coordinates.offsets.Given as goal

-- the positions of the points so far
abbrev pub invariant-loop-point : goal.invariant-loop-point
invariant-loop-point g l = positions_from (g.T.Coordinate.value l.least.0, g.T.Coordinate.value l.least.1) (numbers_of g.T.Coordinate.value (take l.point-index l.points)) ≡ Some l.positions.items
