use Rattle.pf_orders.proofs.BeginLemmas.{begins}
use Rattle.pf_orders.proofs.directed.topological_sort.groups.topological_sort_into_groups.Goals as goal

pub groups_in-requires-clause-graph : goal.groups_in-requires-clause-graph
groups_in-requires-clause-graph g c =
    let r = c.requires.graph in
    let e = c.in_ok-nodes_of.ensures in
    (c.args.nodes.now, r.0, begins g.met.N.Eq.laws e.distinct e.same r.1)

pub returns : goal.returns
returns g c = record {
  groups = λ next a. let e = c.in_ok-nodes_of.ensures in c.groups_in.ensures.groups c.args.nodes.now next (begins g.met.N.Eq.laws e.distinct e.same a);
  cycle = λ next a. let e = c.in_ok-nodes_of.ensures in c.groups_in.ensures.cycle c.args.nodes.now next (begins g.met.N.Eq.laws e.distinct e.same a);
  closed = λ next a. let e = c.in_ok-nodes_of.ensures in c.groups_in.ensures.closed c.args.nodes.now next (begins g.met.N.Eq.laws e.distinct e.same a);
  unknown = λ next a. let e = c.in_ok-nodes_of.ensures in c.groups_in.ensures.unknown c.args.nodes.now next (begins g.met.N.Eq.laws e.distinct e.same a);
  errors = c.groups_in.ensures.errors;
}
