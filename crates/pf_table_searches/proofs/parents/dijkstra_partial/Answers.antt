use Rattle.std.proofs.Common.{◌∷◌, [], refl}
use Rattle.pf_tables.specs.Graphs.{graph_of}
use Rattle.pf_tables.proofs.GraphLemmas.{no_negative_cost}
use Rattle.pf_table_functions.proofs.TableExplores.{table_edges, one_distinct, same_nodes, first_stands}
use Rattle.pf_table_searches.proofs.parents.dijkstra_partial.Goals as goal

pub partial_map-requires-clause-graph : goal.partial_map-requires-clause-graph
partial_map-requires-clause-graph g c =
    let value = g.C.Number.value in
    let table = c.args.graph.now in
    let from = c.args.from in
    let starts = from ∷ [] in (
      graph_of value (g.G.Graph.size table) (g.G.Graph.places table),
      from,
      g.T.Goals.passes c.args.goals,
      rw (c.edge_discovery.ensures, c.in_ok-begin.ensures.one, c.new.ensures)
          (record { begins = first_stands from; explores = table_edges value g.G.Graph.size g.G.Graph.places table starts starts (one_distinct from) (same_nodes starts); tested = refl }),
      no_negative_cost value (g.G.Graph.size table) (g.G.Graph.places table) c.known.ensures starts,
    )

pub returns : goal.returns
unfolding partial_map-requires-clause-graph
returns g c =
    let p = partial_map-requires-clause-graph g c.before.before.before.before in
    let e = c.partial_map.ensures in
    record { partial = e.partial p.0 p.1 p.2 p.3 p.4; overflow = e.overflow p.0 p.1 p.2 p.3 p.4; errors = e.errors }
