use Rattle.std.proofs.lemmas.Option.{IfSome_then}
use Rattle.pf_yen.proofs.NamedLemmas.{summed}
use Rattle.pf_yen.proofs.filtered.spent_on.Goals as goal

pub returns-in_err-spent : goal.returns-in_err-spent
returns-in_err-spent g c = rw c.from_residual.ensures tt

pub returns-in_err-cheapest_step : goal.returns-in_err-cheapest_step
returns-in_err-cheapest_step g c = rw c.from_residual-in_err-cheapest_step.ensures tt

pub returns : goal.returns
returns g c =
    let s = c.in_ok-spent.field-0 in
    let p = c.in_ok-cheapest_step.field-0 in
    let least = c.in_ok-cheapest_step.ensures in
    let adds = g.met.C.CheckedAdd.checked_add_law s p c.checked_add.result c.checked_add.ensures in
    IfSome_then c.checked_add.result (summed g.C.Number.value g.C.Number.fits c.args.spent s p c.checked_add.result c.in_ok-spent.was adds) (λ t w. (w.0, p, w.1, w.2, least.0, least.1))
