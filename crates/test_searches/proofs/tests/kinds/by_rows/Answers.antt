use Rattle.std.proofs.Common.{rules, arith, ℕ, pos, ◌<◌, ◌==◌, List, ◌∷◌, [], length, nat_eq, Bor}
use Rattle.std.proofs.lemmas.Grind.{common_steps}
use Rattle.pf_base.proofs.Callers.{nat_graph, nat_test, valued}
use Rattle.pf_base.proofs.Reach.{row_at, row_at-index, nat_reach_keeps, row_all, unsigned_cost}
use Rattle.test_searches.proofs.tests.kinds.by_rows.Goals as goal

pub dijkstra_tallied-requires-clause-graph : goal.dijkstra_tallied-requires-clause-graph
dijkstra_tallied-requires-clause-graph c =
    let rows : List (Bor (List (ℕ × ℕ))) = c.args.rows.now in
    let items : Bor (List (ℕ × ℕ)) → List (ℕ × ℕ) = λ row. row.now in
    let listed : ℕ → List (ℕ × ℕ) = row_at items rows in
    let below = nat_reach_keeps (λ z. pos z) listed (λ n. n < length rows) 0 c.requires.inside (λ n p. row_all (λ (e : ℕ × ℕ). e.0 < length rows) items rows c.requires.in_range n) in (
      (λ n. valued (λ z. pos z) (listed n)),
      (λ n. n == 3),
      record {
        edges_answered = nat_graph listed (λ x w. let l = below x.now w in search rules) (λ x r t w k. let l = below x.now w in (search rules, record { can_next = λ it b. search rules; finite = λ it b. search rules; items = λ it b p t o u. grind (arith, common_steps, row_at-index) }));
        test_answered = nat_test (λ n. n == 3) (λ x w. search rules) (λ x r t w k. (search rules, search rules));
        costs = unsigned_cost nat_eq listed (0 ∷ []);
      },
    )
