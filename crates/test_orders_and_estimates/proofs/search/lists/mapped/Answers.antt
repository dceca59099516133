use Rattle.std.proofs.Common.{rules, pos, ◌∷◌, [], nat_eq}
use Rattle.std.proofs.lemmas.Cmp.{nat_eq_equiv}
use Rattle.test_edge_lists.proofs.Callers.{edges_from_answered}
use Rattle.test_edge_lists.specs.Lists.{edges_from, ends_from}
use Rattle.pf_base.proofs.Callers.{nat_test}
use Rattle.pf_base.proofs.Reach.{unsigned_cost}
use Rattle.test_orders_and_estimates.proofs.search.lists.mapped.Goals as goal

pub dijkstra_partial-requires-clause-graph : goal.dijkstra_partial-requires-clause-graph
dijkstra_partial-requires-clause-graph c =
    let edges = c.args.edges.now in (
      edges_from nat_eq edges (λ z. pos z),
      (λ n. nat_eq n c.in-Some.stop),
      record {
        edges_answered = edges_from_answered nat_eq_equiv edges (λ x w. search rules) (λ x r t w k. (search rules, λ it b. (search rules, search rules, search rules)));
        test_answered = nat_test (λ n. nat_eq n c.in-Some.stop) (λ x w. search rules) (λ x r t w k. search rules);
        costs = unsigned_cost nat_eq (ends_from nat_eq edges) (c.args.from ∷ []);
      },
    )

pub dijkstra_all-requires-clause-graph : goal.dijkstra_all-requires-clause-graph
dijkstra_all-requires-clause-graph c =
    let edges = c.args.edges.now in
    (edges_from nat_eq edges (λ z. pos z), edges_from_answered nat_eq_equiv edges (λ x w. search rules) (λ x r t w k. (search rules, λ it b. (search rules, search rules, search rules))), unsigned_cost nat_eq (ends_from nat_eq edges) (c.args.from ∷ []))
