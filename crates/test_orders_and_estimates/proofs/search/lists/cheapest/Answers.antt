use Rattle.std.proofs.Common.{rules, pos, ◌∷◌, [], nat_eq}
use Rattle.std.proofs.lemmas.Cmp.{nat_eq_equiv}
use Rattle.test_edge_lists.proofs.Callers.{edges_from_answered, edges_to_answered}
use Rattle.test_edge_lists.proofs.ChosenLemmas.{enters, leaves}
use Rattle.test_edge_lists.specs.Lists.{edges_from, edges_to, ends_from, starts_to}
use Rattle.pf_base.proofs.Callers.{nat_test}
use Rattle.pf_base.proofs.Reach.{unsigned_cost}
use Rattle.test_orders_and_estimates.proofs.search.lists.cheapest.Goals as goal

pub dijkstra-requires-clause-graph : goal.dijkstra-requires-clause-graph
dijkstra-requires-clause-graph c =
    let edges = c.args.edges.now in (
      edges_from nat_eq edges (λ z. pos z),
      (λ n. nat_eq n c.args.to),
      record {
        edges_answered = edges_from_answered nat_eq_equiv edges (λ x w. search rules) (λ x r t w k. (search rules, λ it b. (search rules, search rules, search rules)));
        test_answered = nat_test (λ n. nat_eq n c.args.to) (λ x w. search rules) (λ x r t w k. search rules);
        costs = unsigned_cost nat_eq (ends_from nat_eq edges) (c.args.from ∷ []);
      },
    )

pub dijkstra_bidirectional-requires-clause-graph : goal.dijkstra_bidirectional-requires-clause-graph
dijkstra_bidirectional-requires-clause-graph c =
    let edges = c.args.edges.now in (
      edges_from nat_eq edges (λ z. pos z),
      edges_to nat_eq edges (λ z. pos z),
      record {
        edges_answered = edges_from_answered nat_eq_equiv edges (λ x w. search rules) (λ x r t w k. (search rules, λ it b. (search rules, search rules, search rules)));
        previous_answered = edges_to_answered nat_eq_equiv edges (λ x w. search rules) (λ x r t w k. (search rules, λ it b. (search rules, search rules, search rules)));
        mirror = record { precedes = λ a b z r q h. enters nat_eq (λ z. pos z) edges a b z h; follows = λ a b z r q h. leaves nat_eq (λ z. pos z) edges a b z h };
        costs = unsigned_cost nat_eq (ends_from nat_eq edges) (c.args.from ∷ []);
        costs_back = unsigned_cost nat_eq (starts_to nat_eq edges) (c.args.to ∷ []);
      },
    )
