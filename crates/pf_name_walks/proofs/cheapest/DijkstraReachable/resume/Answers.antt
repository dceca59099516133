use Rattle.std.proofs.Common.{ap}
use Rattle.pf_name_walks.specs.NameWalks.{cheapest_by_name}
use Rattle.pf_name_walks.proofs.CheapestNames.{bar_over, over_by_name, still_over}
use Rattle.pf_name_walks.proofs.cheapest.DijkstraReachable.resume.Goals as goal

pub invariant_of-self : goal.invariant_of-self
invariant_of-self g c =
    let i = c.self.inside in
    still_over g.met.N.Eq.laws g.C.Number.value i.list.now i.from.now i.walk c.resume.new.self c.self.invariant (ap (λ w. w.table) c.resume.ensures.lowered) (ap (λ w. w.start) c.resume.ensures.lowered) c.resume.ensures.graph

pub returns-clause-lowered : goal.returns-clause-lowered
returns-clause-lowered g c =
    let i = c.self.inside in
    rw (← c.self.view_is) (ap (λ w. cheapest_by_name g.N.PartialEq.eq i.list.now i.from.now w.walk) c.resume.ensures.lowered)

pub returns-clause-graph : goal.returns-clause-graph
returns-clause-graph g c =
    let i = c.self.inside in
    over_by_name g.met.N.Eq.laws g.C.Number.value i.list.now i.from.now c.resume.new.self (invariant_of-self g c)

pub returns-clause-bar : goal.returns-clause-bar
returns-clause-bar g c =
    let i = c.self.inside in
    rw (← c.self.view_is) (bar_over g.met.N.Eq.laws g.C.Number.value i.list.now i.from.now g.C.Number.fits i.walk c.resume.new.self c.self.invariant (invariant_of-self g c) c.resume.ensures.bar)
