use Rattle.std.proofs.Common.{◌≡◌}
use Rattle.pf_grid.proofs.grid.Grid.from_vertices.Given as goal

abbrev pub invariant-loop-vertex : goal.invariant-loop-vertex
invariant-loop-vertex g l = l.given.items ≡ l.yielded
