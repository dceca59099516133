use Rattle.pf_orders.proofs.BeginLemmas.{begins}
use Rattle.pf_orders.proofs.directed.topological_sort.topological_sort_tallied.Goals as goal

pub order_in-requires-clause-graph : goal.order_in-requires-clause-graph
order_in-requires-clause-graph g c =
    let r = c.requires.graph in
    let e = c.in_ok-nodes_of.ensures in
    (c.args.roots.now, r.0, begins g.met.N.Eq.laws e.distinct e.same r.1)

pub returns : goal.returns
returns g c = record {
  order = λ next a. let e = c.in_ok-nodes_of.ensures in c.order_in.ensures.order c.args.roots.now next (begins g.met.N.Eq.laws e.distinct e.same a);
  cycle = λ next a. let e = c.in_ok-nodes_of.ensures in c.order_in.ensures.cycle c.args.roots.now next (begins g.met.N.Eq.laws e.distinct e.same a);
  asked = λ next a. let e = c.in_ok-nodes_of.ensures in c.order_in.ensures.asked c.args.roots.now next (begins g.met.N.Eq.laws e.distinct e.same a);
  errors = c.order_in.ensures.errors;
  ticked = c.order_in.ensures.ticked;
}
