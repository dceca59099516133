use Rattle.std.proofs.Common.{[], ◌∷◌}
use Rattle.pf_tables.specs.Graphs.{successors_of}
use Rattle.pf_table_functions.proofs.TableExplores.{table_hops, one_distinct, same_nodes}
use Rattle.pf_table_orders.proofs.components.strongly_connected_component.Goals as goal

pub component_of-requires-clause-graph : goal.component_of-requires-clause-graph
component_of-requires-clause-graph g c =
    let value = g.C.Number.value in
    let table = c.args.graph.now in
    let starts = c.args.node ∷ [] in (
      c.args.node,
      successors_of value (g.G.Graph.size table) (g.G.Graph.places table),
      rw (c.hop_discovery.ensures, c.in_ok-nodes.ensures.one) (record { same = same_nodes starts; explores = table_hops value g.G.Graph.size g.G.Graph.places table starts starts (one_distinct c.args.node) (same_nodes starts) }),
    )

pub returns : goal.returns
unfolding component_of-requires-clause-graph
returns g c =
    let p = component_of-requires-clause-graph g c.before in
    let e = c.component_of.ensures in
    record { component = e.component p.0 p.1 p.2; errors = e.refused }
