use Rattle.std.proofs.Common.{◌+◌, ◌-◌}
use Rattle.pf_matrix.specs.Internal.Flooding.{free_count}
use Rattle.pf_matrix.specs.Positions.{neighbours_of}
use Rattle.pf_matrix.proofs.FloodLemmas.{Flooding}
use Rattle.pf_matrix.proofs.matrix.flooding.flood.Given as goal

abbrev pub invariant-positions : goal.invariant-positions
invariant-positions g l = Flooding l.fn.free (λ p. neighbours_of l.fn.free.rows l.fn.free.columns p.0 p.1 l.diagonals) l.fn.start l.free l.reached.items l.next

-- each turn looks around one position, of which there are as many as free ones and one more
abbrev pub decreases-positions : goal.decreases-positions
decreases-positions g l = free_count l.fn.free.values + 1 - l.next
