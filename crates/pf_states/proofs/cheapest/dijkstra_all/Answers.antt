use Rattle.std.proofs.Common.{rules, ap, ◌∷◌, []}
use Rattle.std.proofs.lemmas.Iterator.Consumers.{YieldsList-from_first}
use Rattle.pf_base.proofs.Sources.{gives_chain}
use Rattle.pf_state_spaces.specs.StateSpaces.{edges_by}
use Rattle.pf_state_spaces.proofs.SpaceLemmas.{no_negative_move, space_graph}
use Rattle.pf_states.proofs.cheapest.dijkstra_all.Goals as goal

pub dijkstra_all-requires-clause-graph : goal.dijkstra_all-requires-clause-graph
dijkstra_all-requires-clause-graph g c =
    let laws = g.met.N.Eq.laws in
    let exact = g.met.N.Exact.exact_law in
    let moves = g.S.StateSpace.moves c.args.space.now in (
      edges_by moves g.C.Number.value,
      space_graph laws exact g.C.Number.value moves (λ x w. tt)
          (λ x r t w k. (ap (λ (q : _). (q, record {})) k.met.1, gives_chain (λ it b. (tt, tt, YieldsList-from_first (λ e. e) (λ es. es) _ (search rules))))),
      no_negative_move _ g.C.Number.value moves (g.met.S.StateSpace.costs_law c.args.space.now) (c.args.start.now ∷ []),
    )

pub returns : goal.returns
unfolding dijkstra_all-requires-clause-graph
returns g c =
    let p = dijkstra_all-requires-clause-graph g c.before in
    let e = c.dijkstra_all.ensures in
    record { cheapest = e.cheapest p.0 p.1 p.2; overflow = e.overflow p.0 p.1 p.2; errors = e.errors }
