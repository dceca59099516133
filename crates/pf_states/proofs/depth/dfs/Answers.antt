use Rattle.std.proofs.Common.{rules, ap}
use Rattle.std.proofs.lemmas.Iterator.Consumers.{YieldsList-from_first}
use Rattle.pf_base.proofs.Sources.{gives_chain}
use Rattle.pf_state_spaces.specs.StateSpaces.{successors_by}
use Rattle.pf_state_spaces.proofs.SpaceLemmas.{goal_test, space_successors}
use Rattle.pf_states.proofs.depth.dfs.Goals as goal

pub dfs-requires-clause-graph : goal.dfs-requires-clause-graph
dfs-requires-clause-graph g c =
    let laws = g.met.N.Eq.laws in
    let exact = g.met.N.Exact.exact_law in
    let moves = g.S.StateSpace.moves c.args.space.now in
    let passes = g.T.StateGoal.passes c.args.goal.now in (
      successors_by moves,
      passes,
      record {
        successors_answered = space_successors laws exact g.C.Number.value moves (λ x w. tt)
            (λ x r t w k. (ap (λ (q : _). (q, record {})) k.met.1, gives_chain (λ it b. (tt, tt, YieldsList-from_first (λ e. e) (λ es. es) _ (search rules)))));
        test_answered = goal_test laws exact passes (λ x w. tt) (λ x r t w k. (ap (λ (q : _). record { 0 = q }) k.met.1, search rules));
      },
    )

pub returns : goal.returns
unfolding dfs-requires-clause-graph
returns g c =
    let p = dfs-requires-clause-graph g c.before in
    let e = c.dfs.ensures in
    record { first = e.first p.0 p.1 p.2; errors = e.errors }
