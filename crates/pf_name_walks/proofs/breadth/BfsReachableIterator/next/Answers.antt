use Rattle.pf_name_walks.specs.NameWalks.{breadth_by_name}
use Rattle.pf_name_walks.proofs.BreadthNames.{still_over, step_over}
use Rattle.pf_name_walks.proofs.Progress.{goes_by_name, same_left, some_node}
use Rattle.pf_name_walks.proofs.breadth.BfsReachableIterator.next.Goals as goal

pub invariant_of-self : goal.invariant_of-self
invariant_of-self g c =
    let i = c.self.inside in
    let h = c.next-node.ensures.steps in
    still_over g.met.N.Eq.laws g.C.Number.value i.list.now i.from.now i.walk c.next-node.new.self c.self.invariant h.0 h.1 h.2

pub returns-clause-steps : goal.returns-clause-steps
returns-clause-steps g c =
    let i = c.self.inside in
    rw (← c.self.view_is) (step_over g.met.N.Eq.laws g.C.Number.value i.list.now i.from.now i.walk c.next-node.new.self c.self.invariant c.next-node.result c.named_node.result c.named_node.ensures c.next-node.ensures.steps)

pub returns-clause-goes : goal.returns-clause-goes
returns-clause-goes g c =
    let i = c.self.inside in
    let eq = g.N.PartialEq.eq in
    let list = i.list.now in
    let from = i.from.now in
    rw (← c.self.view_is) (goes_by_name i.walk c.next-node.result c.next-node.new.self (breadth_by_name eq list from i.walk.walk) c.named_node.result (breadth_by_name eq list from c.next-node.new.self.walk)
    (same_left _ i.walk.walk.given i.walk.walk.refused) (same_left _ c.next-node.new.self.walk.given c.next-node.new.self.walk.refused) (some_node eq list from c.next-node.result c.named_node.result c.named_node.ensures) tt c.next-node.ensures.goes)
