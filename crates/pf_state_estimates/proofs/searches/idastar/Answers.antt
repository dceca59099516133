use Rattle.std.proofs.Common.{rules, ap, ◌∷◌, []}
use Rattle.std.proofs.lemmas.Iterator.Consumers.{YieldsList-from_first}
use Rattle.pf_base.proofs.Sources.{gives_chain}
use Rattle.pf_informed.proofs.Callers.{estimate_of}
use Rattle.pf_state_spaces.specs.StateSpaces.{edges_by}
use Rattle.pf_state_spaces.proofs.SpaceLemmas.{goal_test, no_negative_move, space_graph}
use Rattle.pf_state_estimates.proofs.EstimateLemmas.{consistent_admissible, same_three}
use Rattle.pf_state_estimates.proofs.searches.idastar.Goals as goal

pub idastar-requires-clause-graph : goal.idastar-requires-clause-graph
idastar-requires-clause-graph g c =
    let laws = g.met.N.Eq.laws in
    let exact = g.met.N.Exact.exact_law in
    let value = g.C.Number.value in
    let space = c.args.space.now in
    let goals = c.args.goal.now in
    let led = c.args.estimate.now in
    let moves = g.S.StateSpace.moves space in
    let passes = g.T.StateGoal.passes goals in
    let estimated = g.E.StateEstimate.estimated led space goals in
    let met = g.met.E.StateEstimate in (
      edges_by moves value,
      passes,
      (λ state. value (estimated state)),
      record {
        weighted = record {
          edges_answered = space_graph laws exact value moves (λ x w. tt)
              (λ x r t w k. (ap (λ (q : _). (q, record {})) k.met.1, gives_chain (λ it b. (tt, tt, YieldsList-from_first (λ e. e) (λ es. es) _ (search rules)))));
          test_answered = goal_test laws exact passes (λ x w. tt) (λ x r t w k. (ap (λ (q : _). record { 0 = q }) k.met.1, search rules));
          costs = no_negative_move _ value moves (g.met.S.StateSpace.costs_law space) (c.args.start.now ∷ []);
        };
        estimate_answered = estimate_of estimated (λ x y w e. ap estimated (exact x y e)) (λ x w. tt) (λ x r t w k. (same_three k.met.0, k.met.1));
        admissible = consistent_admissible exact value moves passes estimated (met.from_zero_law led space goals) (met.at_goal_law led space goals) (met.falls_law led space goals) (c.args.start.now ∷ []);
      },
    )

pub returns : goal.returns
unfolding idastar-requires-clause-graph
returns g c =
    let p = idastar-requires-clause-graph g c.before in
    let e = c.idastar.ensures in
    record { best = e.best p.0 p.1 p.2 p.3; overflow = e.overflow p.0 p.1 p.2 p.3; errors = e.errors }
