use Rattle.std.proofs.Common.{◌≡◌, ◌∙◌, ap, sym, arith, refl, Some, None}
use Rattle.std.specs.Prelude.{slice_get}
use Rattle.std.specs.Ordering.{is_some_and, is_lt}
use Rattle.std.proofs.lemmas.Int.{ints}
use Rattle.std.proofs.lemmas.Option.{slice_get_within}
use Rattle.pf_base.proofs.ListLemmas.{at_place, lt_means}
use Rattle.pf_core.proofs.LabelLemmas.{label_is}
use Rattle.pf_core.specs.declared.labels.Label.{Label}
use Rattle.pf_informed.proofs.labels.current_cost.Goals as goal

pub index-requires : goal.index-requires
index-requires g c =
    let l = c.requires.labelled in
    let inside = slice_get_within c.args.estimates.now.items c.args.number l.2 l.3 in
    omega (arith, inside, c.args.estimates.now.ok.0)

pub unreachable-requires : goal.unreachable-requires
unreachable-requires g c =
    let l = c.requires.labelled in
    let estimates = c.args.estimates.now.items in
    let at : slice_get estimates c.args.number ≡ Some c.index.result.now = at_place estimates c.args.number _ _ (slice_get_within estimates c.args.number l.2 l.3) (sym c.index.ensures) in
    g.met.C.CheckedAdd.checked_add_law c.label_of-label.result.cost c.index.result.now None c.in_default.ensures
    (c.requires.sums c.args.number c.label_of-label.result c.index.result.now c.label_of-label.ensures at)

pub returns-then-lt : goal.returns-then-lt
returns-then-lt g c = λ l h at there.
    let value = g.C.Number.value in
    let d = c.requires.labelled in
    let estimates = c.args.estimates.now.items in
    let read : slice_get estimates c.args.number ≡ Some c.index.result.now = at_place estimates c.args.number _ _ (slice_get_within estimates c.args.number d.2 d.3) (sym c.index.ensures) in
    let sum = g.met.C.CheckedAdd.checked_add_law c.label_of-label.result.cost c.index.result.now (Some c.in-Some.now) c.in-Some.ensures in
    let less = rw c.if-lt.true at (lt_means (value c.in-Some.now) (value c.args.sum) c.lt.result (c.lt.ensures ∙ ap (is_some_and is_lt) (g.met.C.Number.order_law c.in-Some.now c.args.sum g.met.C.Integral.exact_law))) in
    let own = ap (λ (m : Label g.row.C.Denot). value m.cost) (label_is c.args.labels.now.items c.args.number c.label_of-label.result l c.label_of-label.ensures at) in
    let both : Some c.index.result.now ≡ Some h = sym read ∙ there in
    let same : c.index.result.now ≡ h = cc in
    omega (arith, ints, less, sum.1, own, ap value same)

pub returns : goal.returns
returns g c = (
  (c.label_of-label.result, c.label_of-label.ensures, refl),
  λ l h at there.
      let value = g.C.Number.value in
      let d = c.requires.labelled in
      let estimates = c.args.estimates.now.items in
      let read : slice_get estimates c.args.number ≡ Some c.index.result.now = at_place estimates c.args.number _ _ (slice_get_within estimates c.args.number d.2 d.3) (sym c.index.ensures) in
      let sum = g.met.C.CheckedAdd.checked_add_law c.label_of-label.result.cost c.index.result.now (Some c.in-Some.now) c.in-Some.ensures in
      let low = rw c.if-lt.false at (lt_means (value c.in-Some.now) (value c.args.sum) c.lt.result (c.lt.ensures ∙ ap (is_some_and is_lt) (g.met.C.Number.order_law c.in-Some.now c.args.sum g.met.C.Integral.exact_law))) in
      let own = ap (λ (m : Label g.row.C.Denot). value m.cost) (label_is c.args.labels.now.items c.args.number c.label_of-label.result l c.label_of-label.ensures at) in
      let both : Some c.index.result.now ≡ Some h = sym read ∙ there in
      let same : c.index.result.now ≡ h = cc in
      omega (arith, ints, low, sum.1, own, ap value same),
)
