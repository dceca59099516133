use Rattle.std.proofs.Common.{rules}
use Rattle.test_edge_lists.proofs.Callers.{nodes_answered}
use Rattle.test_edge_lists.specs.Chosen.{chosen}
use Rattle.test_hostile_use.proofs.listed.LetterLemmas.{alike, alike_laws}
use Rattle.test_hostile_use.proofs.listed.sets_in_list.Goals as goal

pub connected_components-requires-clause-graph : goal.connected_components-requires-clause-graph
connected_components-requires-clause-graph c =
    let edges = c.args.edges.now in
    (chosen alike (λ e. e.0) (λ e. e.1) edges, nodes_answered alike_laws (λ e. e.0) (λ e. e.1) edges (λ x w. search rules) (λ x r t w k. (search rules, λ it b. (search rules, search rules, search rules))))
