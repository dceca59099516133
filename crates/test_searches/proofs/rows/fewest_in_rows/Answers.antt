use Rattle.std.proofs.Common.{rules, arith, ℕ, ◌==◌, List, Vec}
use Rattle.std.specs.declared.alloc.Global.{Global}
use Rattle.std.proofs.lemmas.Grind.{common_steps}
use Rattle.pf_base.proofs.Callers.{nat_test}
use Rattle.pf_base.proofs.Reach.{row_at-index}
use Rattle.pf_base.proofs.Tables.{rows_successors}
use Rattle.test_searches.specs.Rows.{nodes_after}
use Rattle.test_searches.proofs.rows.fewest_in_rows.Goals as goal

pub bfs-requires-clause-graph : goal.bfs-requires-clause-graph
bfs-requires-clause-graph c =
    let items : Vec ℕ Global → List ℕ = λ row. row.items in (
      nodes_after c.args.rows.now,
      (λ n. n == c.args.to),
      record {
        successors_answered = rows_successors items c.args.rows.now c.args.starts.now c.requires.inside c.requires.in_range
            (λ x l. search rules) (λ x r t l k. (search rules, grind (arith, common_steps, row_at-index)));
        test_answered = nat_test (λ n. n == c.args.to) (λ x w. search rules) (λ x r t w k. (search rules, search rules));
      },
    )

pub returns : goal.returns
unfolding bfs-requires-clause-graph
returns c =
    let p = bfs-requires-clause-graph c.before in
    let e = c.bfs.ensures in
    record { best = e.best p.0 p.1 p.2; errors = e.errors }
