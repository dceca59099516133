use Rattle.std.proofs.Common.{◌≡◌, ◌++◌}
use Rattle.pf_grid.specs.Steps.{neighbours_of}
use Rattle.pf_grid.proofs.grid.Grid.neighbours.Given as goal

abbrev pub invariant-loop-neighbour : goal.invariant-loop-neighbour
invariant-loop-neighbour g l = l.found.items ++ l.neighbour-iterator ≡ neighbours_of l.self l.fn.vertex
