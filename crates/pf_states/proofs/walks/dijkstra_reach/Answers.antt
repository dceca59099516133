use Rattle.std.proofs.Common.{ap, sym, ◌∷◌, []}
use Rattle.pf_state_spaces.specs.StateSpaces.{edges_by}
use Rattle.pf_state_spaces.proofs.SpaceLemmas.{no_negative_move, ok_so}
use Rattle.pf_states.proofs.walks.dijkstra_reach.Goals as goal

pub returns-clause-graph : goal.returns-clause-graph
returns-clause-graph g c =
    let moves = g.S.StateSpace.moves in
    let value = g.C.Number.value in
    ok_so c.new-2.result _ _ (λ walk h. h (edges_by (moves c.args.space.now) value) (ap (λ s. edges_by (moves s) value) (sym c.new.ensures))
    (no_negative_move _ value (moves c.args.space.now) (g.met.S.StateSpace.costs_law c.args.space.now) (c.args.start.now ∷ []))) c.new-2.ensures.graph
