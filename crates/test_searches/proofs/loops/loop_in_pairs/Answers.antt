use Rattle.std.proofs.Common.{rules, nat_eq}
use Rattle.std.proofs.lemmas.Cmp.{nat_eq_equiv}
use Rattle.test_edge_lists.proofs.Callers.{nodes_after_answered}
use Rattle.test_edge_lists.specs.Pairs.{nodes_after}
use Rattle.test_searches.proofs.loops.loop_in_pairs.Goals as goal

pub bfs_loop-requires-clause-graph : goal.bfs_loop-requires-clause-graph
bfs_loop-requires-clause-graph c = (
  nodes_after nat_eq c.args.edges.now,
  nodes_after_answered nat_eq_equiv c.args.edges.now (λ x w. search rules) (λ x r t w k. (search rules, λ it b. (search rules, search rules, search rules))),
)
