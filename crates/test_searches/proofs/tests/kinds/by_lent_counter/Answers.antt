use Rattle.std.proofs.Common.{rules, ◌≡◌, ◌∙◌, ℕ, pos, ◌==◌, List, ◌∷◌, [], nat_eq}
use Rattle.pf_base.proofs.Callers.{nat_graph_by, nat_test}
use Rattle.pf_base.proofs.Sources.{gives_chain, YieldsList-from_array}
use Rattle.pf_base.proofs.Reach.{unsigned_cost}
use Rattle.test_searches.proofs.tests.kinds.by_lent_counter.Goals as goal

pub dijkstra-answer-requires-clause-graph : goal.dijkstra-answer-requires-clause-graph
dijkstra-answer-requires-clause-graph c =
    let listed : ℕ → List (ℕ × ℕ) = λ n. (98, 1) ∷ [] in (
      (λ n. (98, pos 1) ∷ []),
      (λ n. n == 99),
      record {
        edges_answered = nat_graph_by listed (λ s. Unit {0}) tt (λ s x j w. search rules) (λ s x r t j w k. let is : r ≡ listed x.now = search rules in (tt, gives_chain (λ it b. (tt, tt, YieldsList-from_array (listed x.now) (b.0 ∙ is)))));
        test_answered = nat_test (λ n. n == 99) (λ x w. search rules) (λ x r t w k. (search rules, search rules));
        costs = unsigned_cost nat_eq listed (97 ∷ []);
      },
    )
