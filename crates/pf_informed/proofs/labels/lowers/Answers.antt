use Rattle.std.proofs.Common.{◌∙◌, ap, sym, ◌≡◌, Some, None}
use Rattle.std.specs.Ordering.{is_some_and, is_lt}
use Rattle.pf_base.proofs.ListLemmas.{at_place, lt_means}
use Rattle.pf_informed.proofs.WaitingLemmas.{lowers_at}
use Rattle.pf_informed.proofs.labels.lowers.Goals as goal

pub returns-in-Some : goal.returns-in-Some
returns-in-Some g c =
    let o = g.met.C.Number.order_law c.args.cost c.in-Some.label.cost g.met.C.Integral.exact_law in
    lowers_at g.C.Number.value c.args.labels.now c.args.number c.in-Some.label c.args.cost (at_place _ _ _ _ c.requires (sym c.index-labels-number.is ∙ sym c.in-Some.ensures)) c.lt.result (lt_means _ _ c.lt.result (c.lt.ensures ∙ ap (is_some_and is_lt) o))

pub returns-in-None : goal.returns-in-None
returns-in-None g c = λ l h. let e : Some None ≡ Some (Some l) = sym (at_place _ _ _ _ c.requires (sym c.index-labels-number.is ∙ sym c.in-None.ensures)) ∙ h in cc
