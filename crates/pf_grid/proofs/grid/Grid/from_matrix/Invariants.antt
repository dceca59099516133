use Rattle.std.proofs.Common.{◌≡◌, false}
use Rattle.pf_grid.specs.GridPositions.{grid_of}
use Rattle.pf_grid.proofs.MatrixLemmas.{table_to}
use Rattle.pf_grid.proofs.grid.Grid.from_matrix.Given as goal

abbrev pub invariant-loop-x : goal.invariant-loop-x
invariant-loop-x g l = l.grid ≡ grid_of l.width l.height false (table_to l.matrix l.x l.y)

-- the rows so far
abbrev pub invariant-loop-y : goal.invariant-loop-y
invariant-loop-y g l = l.grid ≡ grid_of l.width l.height false (table_to l.matrix 0 l.y)
