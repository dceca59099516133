use Rattle.std.proofs.Common.{Err, ap}
use Rattle.std.proofs.lemmas.Result.{IfOk-weaker}
use Rattle.pf_base.proofs.Outcomes.{error_of}
use Rattle.pf_name_estimates.proofs.SearchNames.{best_in, overflow_in}
use Rattle.pf_name_estimates.proofs.searches.astar.Goals as goal

pub returns-in_err-found-clause-overflow : goal.returns-in_err-found-clause-overflow
returns-in_err-found-clause-overflow g c = λ e.
    let f = error_of c.from_residual.result _ _ c.from_residual.ensures.1 e in
    overflow_in g.met.N.Eq.laws g.C.Number.value c.args.estimates.now.list c.guide.result.table c.list-list.result.now c.guide.ensures.list c.list-list.ensures c.args.from.now c.number_or_next-start.result c.number_or_next-start.ensures
    _ _ c.guide.ensures.goal _ _ c.guide.ensures.estimates g.C.Number.fits (c.in_err-found.ensures.overflow (ap Err f))

pub returns-clause-best : goal.returns-clause-best
returns-clause-best g c = IfOk-weaker c.named_found.result _ _ (λ answer e. best_in g.met.N.Eq.laws g.C.Number.value c.args.estimates.now.list c.guide.result.table c.list-list.result.now c.guide.ensures.list c.list-list.ensures
    c.args.from.now c.number_or_next-start.result c.number_or_next-start.ensures _ _ c.guide.ensures.goal answer c.in_ok-found.found e c.in_ok-found.ensures.best) c.named_found.ensures.names
