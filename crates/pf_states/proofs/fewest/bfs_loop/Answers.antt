use Rattle.std.proofs.Common.{rules, ap}
use Rattle.std.proofs.lemmas.Iterator.Consumers.{YieldsList-from_first}
use Rattle.pf_base.proofs.Sources.{gives_chain}
use Rattle.pf_state_spaces.specs.StateSpaces.{successors_by}
use Rattle.pf_state_spaces.proofs.SpaceLemmas.{space_successors}
use Rattle.pf_states.proofs.fewest.bfs_loop.Goals as goal

pub bfs_loop-requires-clause-graph : goal.bfs_loop-requires-clause-graph
bfs_loop-requires-clause-graph g c =
    let laws = g.met.N.Eq.laws in
    let exact = g.met.N.Exact.exact_law in
    let moves = g.S.StateSpace.moves c.args.space.now in (
      successors_by moves,
      space_successors laws exact g.C.Number.value moves (λ x w. tt)
          (λ x r t w k. (ap (λ (q : _). (q, record {})) k.met.1, gives_chain (λ it b. (tt, tt, YieldsList-from_first (λ e. e) (λ es. es) _ (search rules))))),
    )

pub returns-clause-best : goal.returns-clause-best
unfolding bfs_loop-requires-clause-graph
returns-clause-best g c =
    let p = bfs_loop-requires-clause-graph g c.before.before in
    rw (← c.in_ok-starts.ensures.one) (c.bfs_loop.ensures.best p.0 p.1)
