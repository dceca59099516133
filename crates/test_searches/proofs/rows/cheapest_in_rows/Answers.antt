use Rattle.std.proofs.Common.{rules, arith, ℕ, pos, ◌==◌, List, ◌∷◌, [], nat_eq, Vec}
use Rattle.std.specs.declared.alloc.Global.{Global}
use Rattle.std.proofs.lemmas.Grind.{common_steps}
use Rattle.pf_base.proofs.Callers.{nat_test}
use Rattle.pf_base.proofs.Reach.{row_at, row_at-index, unsigned_cost}
use Rattle.pf_base.proofs.Tables.{rows_graph}
use Rattle.test_searches.specs.Rows.{edges_of}
use Rattle.test_searches.proofs.rows.cheapest_in_rows.Goals as goal

pub dijkstra-requires-clause-graph : goal.dijkstra-requires-clause-graph
dijkstra-requires-clause-graph c =
    let items : Vec (ℕ × ℕ) Global → List (ℕ × ℕ) = λ row. row.items in (
      edges_of c.args.rows.now,
      (λ n. n == c.args.to),
      record {
        edges_answered = rows_graph (λ z. pos z) items c.args.rows.now c.args.from c.requires.inside c.requires.in_range
            (λ x l. search rules) (λ x r t l k. (search rules, grind (arith, common_steps, row_at-index)));
        test_answered = nat_test (λ n. n == c.args.to) (λ x w. search rules) (λ x r t w k. (search rules, search rules));
        costs = unsigned_cost nat_eq (row_at items c.args.rows.now) (c.args.from ∷ []);
      },
    )

pub returns : goal.returns
unfolding dijkstra-requires-clause-graph
returns c =
    let p = dijkstra-requires-clause-graph c.before in
    let e = c.dijkstra.ensures in
    record { best = e.best p.0 p.1 p.2; overflow = e.overflow p.0 p.1 p.2; errors = e.errors }
