use Rattle.std.proofs.Common.{ap, sym}
use Rattle.pf_state_spaces.specs.StateSpaces.{successors_by}
use Rattle.pf_state_spaces.proofs.SpaceLemmas.{ok_so}
use Rattle.pf_states.proofs.walks.bfs_reach.Goals as goal

pub returns-clause-graph : goal.returns-clause-graph
returns-clause-graph g c =
    let moves = g.S.StateSpace.moves in
    ok_so c.new-2.result _ _ (λ walk h. h (successors_by (moves c.args.space.now)) (ap (λ s. successors_by (moves s)) (sym c.new.ensures))) c.new-2.ensures.graph
