use Rattle.std.proofs.Common.{false}
use Rattle.pf_name_paths.specs.PathWalks.{taken_path}
use Rattle.pf_name_paths.proofs.PathWalkSteps.{by_name, resumed}
use Rattle.pf_name_paths.proofs.ranked_walks.YenPaths.resume.Goals as goal

pub invariant_of-self : goal.invariant_of-self
invariant_of-self g c =
    let i = c.self.inside in
    resumed g.met.N.Eq.laws g.C.Number.value g.C.Number.fits i.list.now i.from.now i.to.value i.walk c.resume.new.self (taken_path i.waiting) i.refused i.ended c.resume.ensures.lowered c.resume.ensures.graph c.self.invariant

pub returns-clause-graph : goal.returns-clause-graph
returns-clause-graph g c =
    let i = c.self.inside in
    by_name g.met.N.Eq.laws g.C.Number.value g.C.Number.fits i.list.now i.from.now i.to.value c.resume.new.self (taken_path i.waiting) false i.ended (invariant_of-self g c)
