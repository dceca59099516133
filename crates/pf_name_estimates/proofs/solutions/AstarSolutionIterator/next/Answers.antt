use Rattle.pf_name_numbers.proofs.NamedNumbers.{name_at}
use Rattle.pf_name_estimates.specs.CheapestPathsByName.{is_at_end, numbers_left}
use Rattle.pf_name_estimates.proofs.NamedSteps.{progress, refused_with, stepped}
use Rattle.pf_name_estimates.proofs.solutions.AstarSolutionIterator.next.Goals as goal

pub returns-clause-steps : goal.returns-clause-steps
returns-clause-steps g c =
    let i = c.self.inside in
    let p = c.next_numbers-numbers in
    let n = c.name_numbers-named in
    let name = name_at g.N.PartialEq.eq i.list.now i.from.now in
    rw (← c.self.view_is, c.transpose.ensures, c.is_err-self-inside.ensures.value) (stepped name (numbers_left i.waiting i.paths.left) (is_at_end i.waiting i.paths.ended) i.refused c.if-self.false p.new.paths p.result p.ensures.taken n.new.waiting n.result (rw p.ensures.none at n.ensures))

pub invariant_of-self : goal.invariant_of-self
invariant_of-self g c = λ e.
    let i = c.self.inside in
    let p = c.next_numbers-numbers in
    let n = c.name_numbers-named in
    let name = name_at g.N.PartialEq.eq i.list.now i.from.now in
    rw c.is_err-self-inside.ensures.value (refused_with name (numbers_left i.waiting i.paths.left) (is_at_end i.waiting i.paths.ended) i.refused c.if-self.false p.new.paths p.result p.ensures.taken n.new.waiting n.result (rw p.ensures.none at n.ensures) e)

pub returns-clause-goes : goal.returns-clause-goes
returns-clause-goes g c = progress _ c.args.self.now c.transpose.result _ tt (returns-clause-steps g c)
