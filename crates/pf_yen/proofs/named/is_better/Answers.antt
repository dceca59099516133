use Rattle.std.proofs.Common.{◌∙◌, ap}
use Rattle.std.specs.Ordering.{is_some_and, is_lt}
use Rattle.pf_base.proofs.ListLemmas.{lt_means}
use Rattle.pf_yen.proofs.NamedLemmas.{better_by}
use Rattle.pf_yen.proofs.named.is_better.Goals as goal

pub returns-in-Some : goal.returns-in-Some
returns-in-Some g c =
    let value = g.C.Number.value in
    let o = g.met.C.Number.order_law c.args.sum c.in-Some.step.1 g.met.C.Integral.exact_law in
    better_by value c.args.best c.in-Some.step c.args.sum c.lt.result c.in-Some.is (lt_means (value c.args.sum) (value c.in-Some.step.1) c.lt.result (c.lt.ensures ∙ ap (is_some_and is_lt) o))
