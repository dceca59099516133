use Rattle.std.proofs.Common.{◌∙◌, ap, subst, arith, Some, None}
use Rattle.std.specs.Ordering.{is_some_and, is_lt}
use Rattle.std.proofs.lemmas.Int.{ints}
use Rattle.pf_core.specs.declared.labels.Label.{Label}
use Rattle.pf_core.proofs.LabelLemmas.{label_is}
use Rattle.pf_base.proofs.ListLemmas.{lt_means}
use Rattle.pf_informed.proofs.TightLemmas.{less_of, not_less_of, tight_at}
use Rattle.pf_informed.proofs.tight.is_tight.Goals as goal

pub returns-in_default : goal.returns-in_default
returns-in_default g c = λ h. c.in_default.ensures h.0 h.1

pub returns-in_default-checked_add : goal.returns-in_default-checked_add
returns-in_default-checked_add g c = λ h.
    let s = c.in-Some.ensures in
    let v = g.met.C.CheckedAdd.checked_add_law c.args.cost c.args.price None c.in_default-checked_add.ensures in
    let e = ap g.C.Number.value s.2 ∙ ap (λ (l : Label g.row.C.Denot). g.C.Number.value l.cost) (label_is c.args.labels.now c.args.next s.0 h.0 s.1 h.1) ∙ h.2 in
    v (subst g.C.Number.fits e c.known.ensures)

pub returns-then-lt : goal.returns-then-lt
returns-then-lt g c = λ h.
    let s = c.in-Some.ensures in
    let w = g.met.C.CheckedAdd.checked_add_law c.args.cost c.args.price (Some c.in-Some-checked_add.sum) c.in-Some-checked_add.ensures in
    let e = ap g.C.Number.value s.2 ∙ ap (λ (l : Label g.row.C.Denot). g.C.Number.value l.cost) (label_is c.args.labels.now c.args.next s.0 h.0 s.1 h.1) ∙ h.2 in
    let o = g.met.C.Number.order_law c.in-Some.least c.in-Some-checked_add.sum g.met.C.Integral.exact_law in
    let l = less_of (g.C.Number.value c.in-Some.least) (g.C.Number.value c.in-Some-checked_add.sum) c.lt.result (c.lt.ensures ∙ ap (is_some_and is_lt) o) c.if-lt.true in
    omega (arith, ints, l, e, w.1)

pub returns : goal.returns
returns g c =
    let s = c.in-Some.ensures in
    let w = g.met.C.CheckedAdd.checked_add_law c.args.cost c.args.price (Some c.in-Some-checked_add.sum) c.in-Some-checked_add.ensures in
    let o = g.met.C.Number.order_law c.in-Some.least c.in-Some-checked_add.sum g.met.C.Integral.exact_law in
    let l = not_less_of (g.C.Number.value c.in-Some.least) (g.C.Number.value c.in-Some-checked_add.sum) c.lt.result (c.lt.ensures ∙ ap (is_some_and is_lt) o) c.if-lt.false in
    let o2 = g.met.C.Number.order_law c.in-Some-checked_add.sum c.in-Some.least g.met.C.Integral.exact_law in
    tight_at g.C.Number.value c.args.labels.now c.args.next s.0 (g.C.Number.value c.args.cost) c.args.price c.in-Some-checked_add.sum s.1 w.1 (g.C.Number.value c.in-Some.least) (ap g.C.Number.value s.2) l c.lt-2.result
    (lt_means _ _ c.lt-2.result (c.lt-2.ensures ∙ ap (is_some_and is_lt) o2))
