use Rattle.std.proofs.Common.{ap, sym, subst, ◌∷◌, [], nat_eq}
use Rattle.pf_base.specs.NodeRefs.{HasSameNodes}
use Rattle.pf_table_functions.proofs.TableExplores.{same_nodes}
use Rattle.pf_tables.specs.Graphs.{graph_of}
use Rattle.pf_tables.proofs.GraphLemmas.{no_negative_cost}
use Rattle.pf_table_searches.proofs.walks.dijkstra_reach.Goals as goal

pub returns-clause-graph : goal.returns-clause-graph
returns-clause-graph g c =
    let size = g.G.Graph.size c.args.graph.now in
    let places = g.G.Graph.places c.args.graph.now in
    let starts = c.args.start ∷ [] in
    let same = subst (λ keys. HasSameNodes nat_eq keys starts) (sym c.in_ok-nodes.ensures.one) (same_nodes starts) in
    c.in_ok-walk.ensures.graph c.args.start same (graph_of g.C.Number.value size places) (ap (λ t. graph_of g.C.Number.value (g.G.Graph.size t) (g.G.Graph.places t)) (sym c.new.ensures)) (no_negative_cost g.C.Number.value size places c.known.ensures starts)

pub invariant_of-result : goal.invariant_of-result
invariant_of-result g c = returns-clause-graph g c
