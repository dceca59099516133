use Rattle.pf_matrix.specs.Positions.{neighbours_of}
use Rattle.pf_matrix.proofs.FloodLemmas.{Spreading}
use Rattle.pf_matrix.proofs.matrix.flooding.reach_around.Given as goal

abbrev pub invariant-loop-neighbour : goal.invariant-loop-neighbour
invariant-loop-neighbour g l =
    let first = l.fn.free in
    Spreading first l.free (neighbours_of first.rows first.columns l.fn.position.0 l.fn.position.1 l.diagonals) l.neighbour-iterator l.fn.reached.items l.reached.items
