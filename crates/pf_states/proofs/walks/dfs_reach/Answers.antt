use Rattle.std.proofs.Common.{ap, sym}
use Rattle.pf_state_spaces.specs.StateSpaces.{successors_by}
use Rattle.pf_states.proofs.walks.dfs_reach.Goals as goal

pub returns-clause-graph : goal.returns-clause-graph
returns-clause-graph g c =
    c.new-2.ensures.graph (successors_by (g.S.StateSpace.moves c.args.space.now)) (ap (λ s. successors_by (g.S.StateSpace.moves s)) (sym c.new.ensures))
