use Rattle.std.proofs.Common.{arith}
use Rattle.pf_routes.proofs.DecimalLemmas.{IsBeforeLast, after_last, first_digits, no_digits}
use Rattle.pf_routes.proofs.routes.decimals.+push_decimal.Goals.{then-number-ge10+in_ok-push_decimal, else-number-ge10}
use Rattle.pf_routes.proofs.routes.decimals.+push_decimal.Goals as goal

pub returns : goal.returns
returns g t c =
    let before = elim c.if-number-ge10.branch as (λ _. IsBeforeLast c.args.text.now.items c.args.number c.if-number-ge10.text.items) [
      | then-number-ge10+in_ok-push_decimal w ↦ first_digits c.args.text.now.items c.args.number c.if-number-ge10.text.items (omega arith) (omega arith) (cc w.in_ok-push_decimal.ensures)
      | else-number-ge10 w ↦ no_digits c.args.text.now.items c.args.number c.if-number-ge10.text.items (omega arith) cc
    ] in
    after_last c.args.text.now.items c.args.number c.if-number-ge10.text.items c.push.new.self.items before c.in_ok-push.ensures.items
