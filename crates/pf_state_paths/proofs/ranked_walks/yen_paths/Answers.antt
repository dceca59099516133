use Rattle.std.proofs.Common.{ap, sym, ◌∷◌, []}
use Rattle.pf_state_spaces.specs.StateSpaces.{edges_by}
use Rattle.pf_state_spaces.proofs.SpaceLemmas.{no_negative_move}
use Rattle.pf_state_paths.proofs.ranked_walks.yen_paths.Goals as goal

pub returns-clause-graph : goal.returns-clause-graph
returns-clause-graph g c =
    let moves = g.S.StateSpace.moves in
    let value = g.C.Number.value in
    c.in_ok-walk.ensures.graph (edges_by (moves c.args.space.now) value) (g.T.StateGoal.passes c.args.goal.now) (record {
      edges_answered = ap (λ s. edges_by (moves s) value) (sym c.new.ensures);
      test_answered = ap g.T.StateGoal.passes (sym c.new-2.ensures);
      costs = no_negative_move _ value (moves c.args.space.now) (g.met.S.StateSpace.costs_law c.args.space.now) (c.args.start.now ∷ []);
    })

pub invariant_of-result : goal.invariant_of-result
invariant_of-result g c = returns-clause-graph g c
