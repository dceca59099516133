use Rattle.std.proofs.Common.{◌∙◌, ap, refl, inl, arith}
use Rattle.std.specs.Ordering.{is_some_and, is_lt}
use Rattle.std.proofs.lemmas.Int.{ints}
use Rattle.pf_base.proofs.ListLemmas.{lt_means}
use Rattle.pf_yen.proofs.remaining.lesser.Goals as goal

pub returns-in_default : goal.returns-in_default
returns-in_default g c =
    let value = g.C.Number.value in
    let o = g.met.C.Number.order_law c.in-Some.cost c.args.sum g.met.C.Integral.exact_law in
    let l = rw c.in-Some.cost-is at c.lt.ensures in
    let low = rw c.if-lt.false at (lt_means (value c.in-Some.cost) (value c.args.sum) c.lt.result (l ∙ ap (is_some_and is_lt) o)) in
    (omega (arith, ints), rw c.in-Some.is low, inl refl)
