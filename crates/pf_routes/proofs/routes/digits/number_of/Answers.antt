use Rattle.std.proofs.Common.{suc, get_or, drop, drop-cons, arith, sym, ap, ◌∙◌}
use Rattle.std.specs.Str.Parse.{digits_value_after}
use Rattle.std.proofs.lemmas.List.{drop_all}
use Rattle.pf_routes.proofs.Costs.{cost_at_end, cost_too_high}
use Rattle.pf_routes.proofs.routes.digits.number_of.Goals as goal

pub returns-in_err-number : goal.returns-in_err-number
returns-in_err-number c =
    let field = c.args.field.now in
    let i = c.loop-digit.digit-index in
    let next = drop-cons field i 0 c.loop-digit-test.true in
    rw c.from_residual.ensures (cost_too_high field (drop (suc i) field) c.loop-digit.number (get_or field i 0)
    (ap (digits_value_after 10 c.loop-digit.number) (sym next) ∙ c.loop-digit.invariant.value) c.in_err-number.ensures)

pub returns : goal.returns
returns c =
    let field = c.args.field.now in
    cost_at_end field (drop c.loop-digit.digit-index field) c.loop-digit.number (drop_all _ field (omega arith)) c.loop-digit.invariant.value c.loop-digit.invariant.digits c.loop-digit.invariant.fits
