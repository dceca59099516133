use Rattle.pf_adjacency.proofs.ReverseLemmas.{turned_round}
use Rattle.pf_adjacency.proofs.both_ways.BothWays.back.Goals as goal

pub returns-clause-mirror : goal.returns-clause-mirror
returns-clause-mirror g c = rw (← c.self.view_is) (turned_round g.C.Number.value _ _ c.known.ensures _ c.self.invariant)
