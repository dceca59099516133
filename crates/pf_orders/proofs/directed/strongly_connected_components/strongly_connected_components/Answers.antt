use Rattle.pf_orders.proofs.BeginLemmas.{begins}
use Rattle.pf_orders.proofs.directed.strongly_connected_components.strongly_connected_components.Goals as goal

pub components_of-requires-clause-graph : goal.components_of-requires-clause-graph
components_of-requires-clause-graph g c =
    let r = c.requires.graph in
    let e = c.in_ok-nodes_of.ensures in
    (c.args.nodes.now, r.0, begins g.met.N.Eq.laws e.distinct e.same r.1)

pub returns : goal.returns
returns g c = record {
  components = λ next a. let e = c.in_ok-nodes_of.ensures in c.components_of.ensures.components c.args.nodes.now next (begins g.met.N.Eq.laws e.distinct e.same a);
  errors = c.components_of.ensures.refused;
}
