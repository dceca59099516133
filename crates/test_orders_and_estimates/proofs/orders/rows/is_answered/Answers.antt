use Rattle.std.proofs.Common.{rules, nat_eq}
use Rattle.std.proofs.lemmas.Cmp.{nat_eq_equiv}
use Rattle.test_edge_lists.proofs.Callers.{nodes_after_answered}
use Rattle.test_edge_lists.specs.Pairs.{nodes_after}
use Rattle.test_orders_and_estimates.proofs.orders.rows.is_answered.Goals as goal

pub strongly_connected_components-requires-clause-graph : goal.strongly_connected_components-requires-clause-graph
strongly_connected_components-requires-clause-graph c =
    let edges = c.args.row.now.0.now in
    (nodes_after nat_eq edges, nodes_after_answered nat_eq_equiv edges (λ x w. search rules) (λ x r t w k. (search rules, λ it b. (search rules, search rules, search rules))))

pub strongly_connected_components_from-requires-clause-graph : goal.strongly_connected_components_from-requires-clause-graph
strongly_connected_components_from-requires-clause-graph c =
    let edges = c.args.row.now.0.now in
    (nodes_after nat_eq edges, nodes_after_answered nat_eq_equiv edges (λ x w. search rules) (λ x r t w k. (search rules, λ it b. (search rules, search rules, search rules))))

pub strongly_connected_component-requires-clause-graph : goal.strongly_connected_component-requires-clause-graph
strongly_connected_component-requires-clause-graph c =
    let edges = c.args.row.now.0.now in
    (nodes_after nat_eq edges, nodes_after_answered nat_eq_equiv edges (λ x w. search rules) (λ x r t w k. (search rules, λ it b. (search rules, search rules, search rules))))

pub topological_sort-requires-clause-graph : goal.topological_sort-requires-clause-graph
topological_sort-requires-clause-graph c =
    let edges = c.args.row.now.0.now in
    (nodes_after nat_eq edges, nodes_after_answered nat_eq_equiv edges (λ x w. search rules) (λ x r t w k. (search rules, λ it b. (search rules, search rules, search rules))))

pub topological_sort_into_groups-requires-clause-graph : goal.topological_sort_into_groups-requires-clause-graph
topological_sort_into_groups-requires-clause-graph c =
    let edges = c.args.row.now.0.now in
    (nodes_after nat_eq edges, nodes_after_answered nat_eq_equiv edges (λ x w. search rules) (λ x r t w k. (search rules, λ it b. (search rules, search rules, search rules))))

pub topological_sort_tallied-requires-clause-graph : goal.topological_sort_tallied-requires-clause-graph
topological_sort_tallied-requires-clause-graph c =
    let edges = c.args.row.now.0.now in
    (nodes_after nat_eq edges, nodes_after_answered nat_eq_equiv edges (λ x w. search rules) (λ x r t w k. (search rules, λ it b. (search rules, search rules, search rules))))
