use Rattle.std.proofs.Common.{◌∙◌, ap, sym, inl}
use Rattle.std.specs.Ordering.{is_some_and, is_lt}
use Rattle.pf_base.proofs.ListLemmas.{at_place, lt_means}
use Rattle.pf_core.proofs.LabelLemmas.{improves_at}
use Rattle.pf_core.proofs.ReadLemmas.{none_read}
use Rattle.pf_core.proofs.labels.improves.Goals as goal

pub returns-then-label : goal.returns-then-label
returns-then-label g c = (c.in-Some.label, at_place _ _ _ _ c.requires (sym c.index-labels-next.is ∙ sym c.in-Some.ensures), inl c.if-label.true)

pub returns : goal.returns
returns g c =
    let o = g.met.C.Number.order_law c.args.total c.in-Some.label.cost g.met.C.Integral.exact_law in
    improves_at g.C.Number.value c.args.labels.now c.args.next c.in-Some.label c.args.total (at_place _ _ _ _ c.requires (sym c.index-labels-next.is ∙ sym c.in-Some.ensures)) c.lt.result c.if-label.false (lt_means _ _ c.lt.result (c.lt.ensures ∙ ap (is_some_and is_lt) o))

pub returns-in_default : goal.returns-in_default
returns-in_default g c = λ l h. absurd (none_read c.args.labels.now c.args.next c.index-labels-next.result c.label.result c.index-labels-next.is c.label.ensures c.in_default.is l h)
