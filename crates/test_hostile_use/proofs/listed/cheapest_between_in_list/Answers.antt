use Rattle.std.proofs.Common.{rules, ◌∷◌, []}
use Rattle.test_edge_lists.proofs.Callers.{edges_from_answered, edges_to_answered}
use Rattle.test_edge_lists.proofs.ChosenLemmas.{edges_from-from_zero, edges_to-from_zero, enters, leaves}
use Rattle.test_edge_lists.specs.Lists.{edges_from, edges_to}
use Rattle.test_hostile_use.proofs.listed.LetterLemmas.{alike, alike_laws}
use Rattle.test_hostile_use.proofs.listed.cheapest_between_in_list.Goals as goal

pub dijkstra_bidirectional-requires-clause-graph : goal.dijkstra_bidirectional-requires-clause-graph
dijkstra_bidirectional-requires-clause-graph g c =
    let value = g.C.Number.value in
    let edges = c.args.edges.now in
    let all = c.are_from_zero.ensures (search rules) in (
      edges_from alike edges value,
      edges_to alike edges value,
      record {
        edges_answered = edges_from_answered alike_laws edges (λ x w. search rules) (λ x r t w k. (search rules, λ it b. (search rules, search rules, search rules)));
        previous_answered = edges_to_answered alike_laws edges (λ x w. search rules) (λ x r t w k. (search rules, λ it b. (search rules, search rules, search rules)));
        mirror = record { precedes = λ a b z r q h. enters alike value edges a b z h; follows = λ a b z r q h. leaves alike value edges a b z h };
        costs = edges_from-from_zero alike value edges all (c.args.from ∷ []);
        costs_back = edges_to-from_zero alike value edges all (c.args.to ∷ []);
      },
    )
