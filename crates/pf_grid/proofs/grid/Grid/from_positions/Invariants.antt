use Rattle.std.proofs.Common.{◌≡◌, take, false}
use Rattle.pf_grid.specs.GridPositions.{grid_of}
use Rattle.pf_grid.specs.Vertices.{width_of, height_of, listed}
use Rattle.pf_grid.proofs.grid.Grid.from_positions.Given as goal

abbrev pub invariant-loop-position : goal.invariant-loop-position
invariant-loop-position g l = l.grid ≡ grid_of (width_of l.positions) (height_of l.positions) false (listed (take l.position-index l.positions))
