use Rattle.std.proofs.Common.{ap, map, refl}
use Rattle.pf_name_numbers.proofs.NamedNumbers.{name_at}
use Rattle.pf_name_walks.proofs.PreorderSteps.{over_by_name, still_along, still_over}
use Rattle.pf_name_walks.proofs.preorder.DfsReachable.resume.Goals as goal

pub invariant_of-self : goal.invariant_of-self
invariant_of-self g c =
    let i = c.self.inside in
    still_over g.met.N.Eq.laws g.C.Number.value i.list.now i.from.now i.walk c.resume.new.self c.self.invariant (ap (λ w. w.table) c.resume.ensures.lowered) (ap (λ w. w.start) c.resume.ensures.lowered) c.resume.ensures.graph

pub returns-clause-list : goal.returns-clause-list
returns-clause-list g c = rw (← c.self.view_is) (refl, refl)

pub returns-clause-lowered : goal.returns-clause-lowered
returns-clause-lowered g c =
    let i = c.self.inside in
    let name = name_at g.N.PartialEq.eq i.list.now i.from.now in
    rw (← c.self.view_is) (ap (λ w. map name w.walk.given) c.resume.ensures.lowered, ap (λ w. map name w.walk.found) c.resume.ensures.lowered, ap (λ w. w.walk.refused) c.resume.ensures.lowered)

pub returns-clause-graph : goal.returns-clause-graph
returns-clause-graph g c =
    let i = c.self.inside in
    over_by_name g.met.N.Eq.laws g.C.Number.value i.list.now i.from.now c.resume.new.self (invariant_of-self g c)

pub returns-clause-along : goal.returns-clause-along
returns-clause-along g c =
    let i = c.self.inside in
    rw (← c.self.view_is) (still_along g.met.N.Eq.laws g.C.Number.value i.list.now i.from.now i.walk c.resume.new.self c.self.invariant (invariant_of-self g c) (ap (λ w. w.start) c.resume.ensures.lowered) c.resume.ensures.along)
