use Rattle.std.proofs.Common.{rules}
use Rattle.test_edge_lists.proofs.Callers.{nodes_answered}
use Rattle.test_edge_lists.proofs.ChosenLemmas.{nodes_mirror}
use Rattle.test_edge_lists.specs.Chosen.{chosen}
use Rattle.test_hostile_use.proofs.listed.LetterLemmas.{alike, alike_laws}
use Rattle.test_hostile_use.proofs.listed.fewest_between_in_list.Goals as goal

pub bfs_bidirectional-requires-clause-graph : goal.bfs_bidirectional-requires-clause-graph
bfs_bidirectional-requires-clause-graph c =
    let edges = c.args.edges.now in (
      chosen alike (λ e. e.0) (λ e. e.1) edges,
      chosen alike (λ e. e.1) (λ e. e.0) edges,
      record {
        successors_answered = nodes_answered alike_laws (λ e. e.0) (λ e. e.1) edges (λ x w. search rules) (λ x r t w k. (search rules, λ it b. (search rules, search rules, search rules)));
        predecessors_answered = nodes_answered alike_laws (λ e. e.1) (λ e. e.0) edges (λ x w. search rules) (λ x r t w k. (search rules, λ it b. (search rules, search rules, search rules)));
        mirror = nodes_mirror alike (λ e. e.0) (λ e. e.1) edges _ _;
      },
    )
