use Rattle.pf_name_walks.specs.NameWalks.{cheapest_by_name}
use Rattle.pf_name_walks.proofs.CheapestNames.{still_over, step_over}
use Rattle.pf_name_walks.proofs.Progress.{goes_by_name, same_left, some_item}
use Rattle.pf_name_walks.proofs.cheapest.DijkstraReachableIterator.next.Goals as goal

pub invariant_of-self : goal.invariant_of-self
invariant_of-self g c =
    let i = c.self.inside in
    let h = c.next-item.ensures.steps in
    still_over g.met.N.Eq.laws g.C.Number.value i.list.now i.from.now i.walk c.next-item.new.self c.self.invariant h.0 h.1 h.2

pub returns-clause-steps : goal.returns-clause-steps
returns-clause-steps g c =
    let i = c.self.inside in
    rw (← c.self.view_is) (step_over g.met.N.Eq.laws g.C.Number.value i.list.now i.from.now g.C.Number.fits i.walk c.next-item.new.self c.self.invariant c.next-item.result c.named_item.result c.named_item.ensures c.next-item.ensures.steps)

pub returns-clause-goes : goal.returns-clause-goes
returns-clause-goes g c =
    let i = c.self.inside in
    let eq = g.N.PartialEq.eq in
    let list = i.list.now in
    let from = i.from.now in
    rw (← c.self.view_is) (goes_by_name i.walk c.next-item.result c.next-item.new.self (cheapest_by_name eq list from i.walk.walk) c.named_item.result (cheapest_by_name eq list from c.next-item.new.self.walk)
    (same_left _ i.walk.walk.given i.walk.walk.refused) (same_left _ c.next-item.new.self.walk.given c.next-item.new.self.walk.refused) (some_item eq list from c.next-item.result c.named_item.result c.named_item.ensures) tt c.next-item.ensures.goes)
