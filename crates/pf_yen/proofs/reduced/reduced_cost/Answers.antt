use Rattle.std.proofs.Common.{Some, ◌∙◌}
use Rattle.std.proofs.lemmas.Option.{IfSome_then}
use Rattle.pf_yen.proofs.reduced.reduced_cost.Goals as goal

pub returns-in_err-sum : goal.returns-in_err-sum
returns-in_err-sum g c = rw c.from_residual.ensures tt

pub returns-in_err-here : goal.returns-in_err-here
returns-in_err-here g c = rw c.from_residual-in_err-here.ensures tt

pub returns : goal.returns
returns g c =
    let adds = g.met.C.CheckedAdd.checked_add_law c.args.price c.args.rest (Some c.in_ok-sum.sum) c.in_ok-sum.ensures in
    IfSome_then c.difference.result c.difference.ensures (λ cost e. (c.in_ok-here.field-0, c.in_ok-here.was, e ∙ adds.1))
