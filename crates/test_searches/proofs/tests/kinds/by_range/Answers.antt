use Rattle.std.proofs.Common.{rules, refl, ℕ, pos, ◌-◌, ◌==◌, List, ◌∷◌, [], map, nat_eq}
use Rattle.std.specs.List.{range_with_len}
use Rattle.std.proofs.lemmas.Iterator.{YieldsList-from_range, YieldsList-from_map}
use Rattle.pf_base.proofs.Callers.{nat_graph, nat_test, valued}
use Rattle.pf_base.proofs.Sources.{gives_chain}
use Rattle.pf_base.proofs.Reach.{unsigned_cost}
use Rattle.test_searches.proofs.tests.kinds.by_range.Goals as goal

pub dijkstra-requires-clause-graph : goal.dijkstra-requires-clause-graph
dijkstra-requires-clause-graph c =
    let listed : ℕ → List (ℕ × ℕ) = λ n. map (λ m. (m, 5)) (range_with_len n (10 - n)) in (
      (λ n. valued (λ z. pos z) (listed n)),
      (λ n. n == 7),
      record {
        edges_answered = nat_graph listed (λ x w. search rules) (λ x r t w k. (search rules, gives_chain (λ it b. (search rules, search rules, YieldsList-from_map _ (λ m. (m, 5)) {f = tt} (YieldsList-from_range x.now 10 (10 - x.now) (cc) refl) (cc) (λ m o q l. search rules)))));
        test_answered = nat_test (λ n. n == 7) (λ x w. search rules) (λ x r t w k. (search rules, search rules));
        costs = unsigned_cost nat_eq listed (3 ∷ []);
      },
    )
