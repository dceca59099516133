use Rattle.std.proofs.Common.{false, refl}
use Rattle.pf_yen.proofs.WalkLemmas.{marked}
use Rattle.pf_yen.proofs.directed.yen.YenPathsBy.resume.Goals as goal

pub returns-clause-graph : goal.returns-clause-graph
returns-clause-graph g c = λ edges start test w.
    let v = rw (← c.self.view_is) at w in
    let e = c.resumed-self-inside.ensures in
    rw (e.refused, e.barred) (marked v false)

pub invariant_of-self : goal.invariant_of-self
invariant_of-self g c = c.self.invariant

pub returns-clause-lowered : goal.returns-clause-lowered
returns-clause-lowered g c = let e = c.resumed-self-inside.ensures in rw (← c.self.view_is, e.refused, e.barred) refl
