use Rattle.std.proofs.Common.{rules, arith, ◌≡◌, ◌∙◌, ℕ, ℤ, pos, ◌<◌, ◌+◌, ◌*◌, ◌%◌, ◌==◌, List, ◌∷◌, [], nat_eq}
use Rattle.std.proofs.lemmas.Nat.{mod_below}
use Rattle.pf_base.specs.Edges.{InReach}
use Rattle.pf_base.proofs.Callers.{nat_graph, nat_test}
use Rattle.pf_base.proofs.Sources.{gives_chain, YieldsList-from_array}
use Rattle.pf_base.proofs.Reach.{nat_reach_keeps, unsigned_cost}
use Rattle.test_searches.proofs.tests.kinds.by_array.Goals as goal

pub dijkstra-requires-clause-graph : goal.dijkstra-requires-clause-graph
dijkstra-requires-clause-graph c =
    let count = c.args.count in
    let listed : ℕ → List (ℕ × ℕ) = λ n. ((n + 1) % count, 2) ∷ (n * 2 % count, 3) ∷ [] in
    let edges : ℕ → List (ℕ × ℤ) = λ n. ((n + 1) % count, pos 2) ∷ (n * 2 % count, pos 3) ∷ [] in
    let below : (n : ℕ) → InReach nat_eq edges (1 ∷ []) n → n < 100 = nat_reach_keeps (λ z. pos z) listed (λ n. n < 100) 1 (omega arith) (λ n p. (omega (arith, mod_below (n + 1) count c.requires.some, c.requires.few), (omega (arith, mod_below (n * 2) count c.requires.some, c.requires.few), tt))) in (
      edges,
      (λ n. n == c.args.goal),
      record {
        edges_answered = nat_graph listed (λ x w. let l = below x.now w in search rules) (λ x r t w k. let is : r ≡ listed x.now = search rules in (search rules, gives_chain (λ it b. (tt, tt, YieldsList-from_array (listed x.now) (b.0 ∙ is)))));
        test_answered = nat_test (λ n. n == c.args.goal) (λ x w. search rules) (λ x r t w k. (search rules, search rules));
        costs = unsigned_cost nat_eq listed (1 ∷ []);
      },
    )
