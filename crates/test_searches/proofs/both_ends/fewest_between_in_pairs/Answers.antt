use Rattle.std.proofs.Common.{rules, nat_eq}
use Rattle.std.proofs.lemmas.Cmp.{nat_eq_equiv}
use Rattle.test_edge_lists.proofs.Callers.{nodes_after_answered, nodes_before_answered}
use Rattle.test_edge_lists.proofs.ChosenLemmas.{pairs_mirror}
use Rattle.test_edge_lists.specs.Pairs.{nodes_after, nodes_before}
use Rattle.test_searches.proofs.both_ends.fewest_between_in_pairs.Goals as goal

pub bfs_bidirectional-requires-clause-graph : goal.bfs_bidirectional-requires-clause-graph
bfs_bidirectional-requires-clause-graph c =
    let edges = c.args.edges.now in (
      nodes_after nat_eq edges,
      nodes_before nat_eq edges,
      record {
        successors_answered = nodes_after_answered nat_eq_equiv c.args.edges.now (λ x w. search rules) (λ x r t w k. (search rules, λ it b. (search rules, search rules, search rules)));
        predecessors_answered = nodes_before_answered nat_eq_equiv c.args.edges.now (λ x w. search rules) (λ x r t w k. (search rules, λ it b. (search rules, search rules, search rules)));
        mirror = pairs_mirror nat_eq edges c.args.starts.now c.args.ends.now;
      },
    )
