use Rattle.std.proofs.Common.{rules, ap}
use Rattle.std.proofs.lemmas.Iterator.Consumers.{YieldsList-from_first}
use Rattle.pf_base.proofs.Sources.{gives_chain}
use Rattle.pf_state_spaces.specs.StateSpaces.{successors_by}
use Rattle.pf_state_spaces.proofs.SpaceLemmas.{space_successors}
use Rattle.pf_state_orders.proofs.components.strongly_connected_component.Goals as goal

pub strongly_connected_component-requires-clause-graph : goal.strongly_connected_component-requires-clause-graph
strongly_connected_component-requires-clause-graph g c =
    let moves = g.S.StateSpace.moves c.args.space.now in (
      successors_by moves,
      space_successors g.met.N.Eq.laws g.met.N.Exact.exact_law g.C.Number.value moves (λ x w. tt)
          (λ x r t w k. (ap (λ (q : _). (q, record {})) k.met.1, gives_chain (λ it b. (tt, tt, YieldsList-from_first (λ e. e) (λ es. es) _ (search rules))))),
    )

pub returns : goal.returns
unfolding strongly_connected_component-requires-clause-graph
returns g c =
    let p = strongly_connected_component-requires-clause-graph g c.before in
    let e = c.strongly_connected_component.ensures in
    record { component = e.component p.0 p.1; errors = e.errors }
