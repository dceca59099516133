use Rattle.std.proofs.Common.{◌∙◌, sym}
use Rattle.pf_name_numbers.proofs.NamedNumbers.{name_at}
use Rattle.pf_name_estimates.proofs.NamedSteps.{cloned}
use Rattle.pf_name_estimates.proofs.solutions.AstarSolutionClone.clone.Goals as goal

pub invariant_of-result : goal.invariant_of-result
invariant_of-result g c = λ e. c.self.invariant (sym c.in_ok-paths.ensures.cases.1 ∙ e)

pub returns : goal.returns
returns g c =
    let i = c.self.inside in
    rw (← c.self.view_is) (record { cases = cloned (name_at g.N.PartialEq.eq i.list.now i.from.now) i.waiting c.in_ok-waiting.waiting c.in_ok-waiting.ensures i.paths c.in_ok-paths.paths c.in_ok-paths.ensures.cases i.refused })
