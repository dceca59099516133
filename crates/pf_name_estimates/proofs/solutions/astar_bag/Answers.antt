use Rattle.std.proofs.Common.{Err, ap, sym, true≢false, ◌∙◌}
use Rattle.pf_base.proofs.Outcomes.{error_of}
use Rattle.pf_name_estimates.proofs.SearchNames.{all_in, no_walk_in, overflow_in}
use Rattle.pf_name_estimates.proofs.solutions.astar_bag.Goals as goal

pub invariant_of-solution : goal.invariant_of-solution
invariant_of-solution g c = λ e. absurd (true≢false (sym e ∙ rw c.in-Some.is at c.in_ok-found.ensures.ready))

pub returns-in_err-found-clause-overflow : goal.returns-in_err-found-clause-overflow
returns-in_err-found-clause-overflow g c = λ e.
    let f = error_of c.from_residual.result _ _ c.from_residual.ensures.1 e in
    overflow_in g.met.N.Eq.laws g.C.Number.value c.args.estimates.now.list c.guide.result.table c.list-list.result.now c.guide.ensures.list c.list-list.ensures c.args.from.now c.number_or_next-start.result c.number_or_next-start.ensures
    _ _ c.guide.ensures.goal _ _ c.guide.ensures.estimates g.C.Number.fits (c.in_err-found.ensures.overflow (ap Err f))

pub returns-in_default-clause-all : goal.returns-in_default-clause-all
returns-in_default-clause-all g c =
    no_walk_in g.met.N.Eq.laws g.C.Number.value c.args.estimates.now.list c.guide.result.table c.list-list.result.now c.guide.ensures.list c.list-list.ensures c.args.from.now c.number_or_next-start.result c.number_or_next-start.ensures
    _ _ c.guide.ensures.goal (rw c.in_default.is at c.in_ok-found.ensures.all)

pub returns-clause-all : goal.returns-clause-all
returns-clause-all g c =
    all_in g.met.N.Eq.laws g.C.Number.value c.args.estimates.now.list c.guide.result.table c.list-list.result.now c.guide.ensures.list c.list-list.ensures c.args.from.now c.number_or_next-start.result c.number_or_next-start.ensures
    _ _ c.guide.ensures.goal c.in-Some.paths.left (g.C.Number.value c.in-Some.cost) (rw c.in-Some.is at c.in_ok-found.ensures.all)
