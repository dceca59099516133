use Rattle.std.proofs.Common.{rules, ◌∷◌, []}
use Rattle.test_edge_lists.proofs.Callers.{edges_from_answered}
use Rattle.test_edge_lists.proofs.ChosenLemmas.{edges_from-from_zero}
use Rattle.test_edge_lists.specs.Lists.{edges_from}
use Rattle.pf_base.proofs.Callers.{test_of}
use Rattle.test_searches.proofs.list.cheapest_in_list.Goals as goal

pub dijkstra-requires-clause-graph : goal.dijkstra-requires-clause-graph
dijkstra-requires-clause-graph g c =
    let eq = g.N.PartialEq.eq in
    let laws = g.met.N.Eq.laws in
    let edges = c.args.edges.now in (
      edges_from eq edges g.C.Number.value,
      (λ n. eq n c.args.to),
      record {
        edges_answered = edges_from_answered laws edges (λ x w. search rules) (λ x r t w k. (search rules, λ it b. (search rules, search rules, search rules)));
        test_answered = test_of (λ n. eq n c.args.to) (λ x y w e. laws.congr x y c.args.to e) (λ x w. search rules) (λ x r t w k. (search rules, search rules));
        costs = edges_from-from_zero eq g.C.Number.value edges c.requires.from_zero (c.args.from ∷ []);
      },
    )

pub returns : goal.returns
unfolding dijkstra-requires-clause-graph
returns g c =
    let p = dijkstra-requires-clause-graph g c.before in
    let e = c.dijkstra.ensures in
    record { best = e.best p.0 p.1 p.2; overflow = e.overflow p.0 p.1 p.2; errors = e.errors }
