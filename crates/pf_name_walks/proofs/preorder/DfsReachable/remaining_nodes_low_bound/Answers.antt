use Rattle.pf_name_walks.proofs.PreorderSteps.{left_named, left_over}
use Rattle.pf_name_walks.proofs.preorder.DfsReachable.remaining_nodes_low_bound.Goals as goal

pub returns-clause-left : goal.returns-clause-left
returns-clause-left g c =
    let i = c.self.inside in
    rw (← c.self.view_is) (left_named g.met.N.Eq.laws g.C.Number.value i.list.now i.from.now i.walk c.remaining_nodes_low_bound.result c.remaining_nodes_low_bound.ensures.left)

pub returns-clause-graph : goal.returns-clause-graph
returns-clause-graph g c =
    let i = c.self.inside in
    rw (← c.self.view_is) (left_over g.met.N.Eq.laws g.C.Number.value i.list.now i.from.now i.walk c.self.invariant c.remaining_nodes_low_bound.result c.remaining_nodes_low_bound.ensures.graph)
