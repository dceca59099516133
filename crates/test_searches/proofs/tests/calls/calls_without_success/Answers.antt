use Rattle.std.proofs.Common.{rules, arith, ℕ, pos, List, ◌∷◌, [], nat_eq, Bor, false}
use Rattle.std.proofs.lemmas.Grind.{common_steps}
use Rattle.pf_base.proofs.Callers.{nat_test, valued}
use Rattle.pf_base.proofs.Reach.{row_at, row_at-index, unsigned_cost}
use Rattle.pf_base.proofs.Tables.{rows_graph}
use Rattle.test_searches.proofs.tests.calls.calls_without_success.Goals as goal

pub dijkstra-answer-requires-clause-graph : goal.dijkstra-answer-requires-clause-graph
dijkstra-answer-requires-clause-graph c =
    let items : Bor (List (ℕ × ℕ)) → List (ℕ × ℕ) = λ row. row.now in (
      (λ n. valued (λ z. pos z) (row_at items c.args.rows.now n)),
      (λ n. false),
      record {
        edges_answered = rows_graph (λ z. pos z) items c.args.rows.now 0 c.requires.inside c.requires.in_range
            (λ x l. search rules) (λ x r t l k. (search rules, grind (arith, common_steps, row_at-index)));
        test_answered = nat_test (λ n. false) (λ x w. search rules) (λ x r t w k. (search rules, search rules));
        costs = unsigned_cost nat_eq (row_at items c.args.rows.now) (0 ∷ []);
      },
    )
