use Rattle.std.proofs.Common.{rules, ap}
use Rattle.std.proofs.lemmas.Iterator.Consumers.{YieldsList-from_first}
use Rattle.pf_base.proofs.Sources.{gives_chain}
use Rattle.pf_state_spaces.specs.StateSpaces.{successors_by}
use Rattle.pf_state_spaces.proofs.SpaceLemmas.{space_successors}
use Rattle.pf_state_orders.proofs.orders.topological_sort.Goals as goal

pub topological_sort-requires-clause-graph : goal.topological_sort-requires-clause-graph
topological_sort-requires-clause-graph g c =
    let moves = g.S.StateSpace.moves c.args.space.now in (
      successors_by moves,
      space_successors g.met.N.Eq.laws g.met.N.Exact.exact_law g.C.Number.value moves (λ x w. tt)
          (λ x r t w k. (ap (λ (q : _). (q, record {})) k.met.1, gives_chain (λ it b. (tt, tt, YieldsList-from_first (λ e. e) (λ es. es) _ (search rules))))),
    )

pub returns : goal.returns
unfolding topological_sort-requires-clause-graph
returns g c =
    let p = topological_sort-requires-clause-graph g c.before in
    let e = c.topological_sort.ensures in
    record { order = e.order p.0 p.1; cycle = e.cycle p.0 p.1; errors = e.errors }
