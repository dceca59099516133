use Rattle.pf_orders.proofs.BeginLemmas.{begins}
use Rattle.pf_orders.proofs.directed.strongly_connected_components.strongly_connected_component.Goals as goal

pub component_of-requires-clause-graph : goal.component_of-requires-clause-graph
component_of-requires-clause-graph g c =
    let r = c.requires.graph in
    let e = c.in_ok-clone_of.ensures in
    (c.args.node.now, r.0, begins g.met.N.Eq.laws e.distinct e.same r.1)

pub returns : goal.returns
returns g c = record {
  component = λ next a. let e = c.in_ok-clone_of.ensures in c.component_of.ensures.component c.args.node.now next (begins g.met.N.Eq.laws e.distinct e.same a);
  errors = c.component_of.ensures.refused;
}
