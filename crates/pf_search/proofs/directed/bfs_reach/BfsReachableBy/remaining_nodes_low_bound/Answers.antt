use Rattle.std.proofs.Common.{arith}
use Rattle.std.proofs.lemmas.Grind.{common_steps}
use Rattle.pf_search.proofs.directed.bfs_reach.BfsReachableBy.remaining_nodes_low_bound.Goals as goal

pub returns : goal.returns
returns g c = grind (arith, common_steps)
