use Rattle.std.proofs.Common.{rules, ap, ◌∷◌, []}
use Rattle.std.proofs.lemmas.Iterator.Consumers.{YieldsList-from_first}
use Rattle.pf_base.proofs.Sources.{gives_chain}
use Rattle.pf_state_spaces.specs.StateSpaces.{edges_by}
use Rattle.pf_state_spaces.proofs.SpaceLemmas.{goal_test, no_negative_move, space_graph}
use Rattle.pf_state_paths.proofs.ranked.yen.Goals as goal

pub yen-requires-clause-graph : goal.yen-requires-clause-graph
yen-requires-clause-graph g c =
    let laws = g.met.N.Eq.laws in
    let exact = g.met.N.Exact.exact_law in
    let moves = g.S.StateSpace.moves c.args.space.now in
    let passes = g.T.StateGoal.passes c.args.goal.now in (
      edges_by moves g.C.Number.value,
      passes,
      record {
        edges_answered = space_graph laws exact g.C.Number.value moves (λ x w. tt)
            (λ x r t w k. (ap (λ (q : _). (q, record {})) k.met.1, gives_chain (λ it b. (tt, tt, YieldsList-from_first (λ e. e) (λ es. es) _ (search rules)))));
        test_answered = goal_test laws exact passes (λ x w. tt) (λ x r t w k. (ap (λ (q : _). record { 0 = q }) k.met.1, search rules));
        costs = no_negative_move _ g.C.Number.value moves (g.met.S.StateSpace.costs_law c.args.space.now) (c.args.start.now ∷ []);
      },
    )

pub returns : goal.returns
unfolding yen-requires-clause-graph
returns g c =
    let p = yen-requires-clause-graph g c.before in
    let e = c.yen.ensures in
    record { cheapest = e.cheapest p.0 p.1 p.2; overflow = e.overflow p.0 p.1 p.2; first_overflow = e.first_overflow p.0 p.1 p.2; some_asked = e.some_asked; errors = e.errors }
