use Rattle.std.proofs.Common.{rules, ap}
use Rattle.pf_tables.specs.Graphs.{successors_of}
use Rattle.pf_table_orders.proofs.TableAnswers.{both_of, closure_successors, discovery_begins}
use Rattle.pf_table_orders.proofs.orders.topological_sort.Goals as goal

pub order_in-requires-clause-graph : goal.order_in-requires-clause-graph
order_in-requires-clause-graph g c =
    let value = g.C.Number.value in
    let table = c.args.graph.now in
    let e = c.in_ok-found.ensures in
    (c.args.roots.now, successors_of value (g.G.Graph.size table) (g.G.Graph.places table), discovery_begins value g.G.Graph.size g.G.Graph.places table c.hop_discovery.ensures c.in-Some.is e.distinct e.same)

pub returns-in-Some : goal.returns-in-Some
returns-in-Some g c =
    let value = g.C.Number.value in
    let table = c.args.graph.now in
    let starts = c.args.roots.now in
    let next = successors_of value (g.G.Graph.size table) (g.G.Graph.places table) in
    let found = c.in_ok-found.ensures in
    let begins = discovery_begins value g.G.Graph.size g.G.Graph.places table c.hop_discovery.ensures c.in-Some.is found.distinct found.same in
    let e = c.order_in.ensures in
    record { order = e.order starts next begins; cycle = e.cycle starts next begins; errors = e.errors }

pub topological_sort-requires-clause-graph : goal.topological_sort-requires-clause-graph
topological_sort-requires-clause-graph g c =
    let size = g.G.Graph.size c.args.graph.now in
    let places = g.G.Graph.places c.args.graph.now in
    (successors_of g.C.Number.value size places, closure_successors g.C.Number.value size places (λ x w. tt) (λ x r t w k. (ap (λ (q : _). (q, record {})) k.met.1, search rules)))

pub returns-in-None : goal.returns-in-None
returns-in-None g c =
    let size = g.G.Graph.size c.args.graph.now in
    let places = g.G.Graph.places c.args.graph.now in
    let next = successors_of g.C.Number.value size places in
    let e = c.topological_sort.ensures in
    let shown = both_of (e.order next) (e.cycle next) (closure_successors g.C.Number.value size places (λ x w. tt) (λ x r t w k. (ap (λ (q : _). (q, record {})) k.met.1, search rules))) in
    record { order = shown.0; cycle = shown.1; errors = e.errors }
