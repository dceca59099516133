use Rattle.pf_matrix.proofs.FloodLemmas.{Spreading}
use Rattle.pf_grid.specs.Steps.{neighbours_of}
use Rattle.pf_grid.proofs.grid.Grid.reach_around.Given as goal

abbrev pub invariant-loop-neighbour : goal.invariant-loop-neighbour
invariant-loop-neighbour g l = Spreading l.fn.free l.free (neighbours_of l.fn.self l.fn.position) l.neighbour-iterator l.fn.reached.items l.reached.items
