use Rattle.std.proofs.Common.{sym, ap, ◌∙◌}
use Rattle.pf_informed.specs.CheapestPaths.{PathsToCome}
use Rattle.pf_informed.proofs.SolutionLemmas.{step_of, progress}
use Rattle.pf_informed.proofs.directed.astar_bag.AstarSolutionByIterator.next.Goals as goal

pub returns-clause-steps : goal.returns-clause-steps
returns-clause-steps g c =
    let i = c.self-2.inside in
    let e = rw (← c.self-2.view_is) at c.step-step.ensures.turn in
    let same = rw (← c.self-2.view_is) at c.step-step.ensures.same in
    let h = sym (ap (λ (v : PathsToCome g.row.N.Denot). v.refused) c.self.view_is) ∙ c.if-self.false in
    rw (c.transpose.ensures, c.is_err-self-inside.ensures.value) (step_of g.N.PartialEq.eq c.args.self.now _ i.refused _ c.step-step.result h same c.step-step.ensures.refused e)

pub returns-clause-goes : goal.returns-clause-goes
returns-clause-goes g c = progress g.N.PartialEq.eq _ c.args.self.now c.transpose.result _ c.requires (returns-clause-steps g c)
