use Rattle.std.proofs.Common.{◌≡◌, pos, Some, None, subst, ap, ◌∙◌, arith, inl, inr, refl, sym}
use Rattle.std.specs.Prelude.{◌<ℤ◌, ◌≤ℤ◌, ◌+ℤ◌, ◌⊎◌}
use Rattle.std.specs.Ordering.{is_some_and, is_le}
use Rattle.std.proofs.lemmas.Int.{ints}
use Rattle.std.proofs.lemmas.Option.{get_or_from_slice_get}
use Rattle.pf_deepening.proofs.CutOffLemmas.{le_means, cut_past}
use Rattle.pf_deepening.proofs.cut_off.admit.Goals as goal

pub returns-in_default-clause-entered : goal.returns-in_default-clause-entered
returns-in_default-clause-entered g c = λ h at u low.
    let value = g.C.Number.value in
    let exact = g.met.C.Integral.exact_law in
    let v = g.met.C.CheckedAdd.checked_add_law c.args.cost c.args.step.1 None c.in_default.ensures in
    cut_past value g.C.Number.fits (λ a b d. g.C.Number.between_law a b d exact) (g.met.C.Zero.zero_fits_law exact) c.args.cut_off.now.least (value c.args.cost +ℤ value c.args.step.1) u v (omega (arith, ints, c.requires.cost, c.requires.price)) (omega (arith, ints, low, c.requires.estimate h at))

pub returns-in_default-checked_add-clause-entered : goal.returns-in_default-checked_add-clause-entered
returns-in_default-checked_add-clause-entered g c = λ h at u low.
    let value = g.C.Number.value in
    let exact = g.met.C.Integral.exact_law in
    let w = g.met.C.CheckedAdd.checked_add_law c.args.cost c.args.step.1 (Some c.in-Some.cost) c.in-Some.ensures in
    let x = c.index-estimates-step.result in
    let is : x ≡ h = c.index-estimates-step.is ∙ get_or_from_slice_get c.args.estimates.now c.args.step.0 h x at in
    let v = g.met.C.CheckedAdd.checked_add_law c.in-Some.cost x None c.in_default-checked_add.ensures in
    cut_past value g.C.Number.fits (λ a b d. g.C.Number.between_law a b d exact) (g.met.C.Zero.zero_fits_law exact) c.args.cut_off.now.least (value c.in-Some.cost +ℤ value x) u v (omega (arith, ints, w.1, ap value is, c.requires.cost, c.requires.price, c.requires.estimate h at)) (omega (arith, ints, low, w.1, ap value is))

pub returns-in_default-clause-past : goal.returns-in_default-clause-past
returns-in_default-clause-past g c = λ e. inr (λ h at f.
    let value = g.C.Number.value in
    let exact = g.met.C.Integral.exact_law in
    let v = g.met.C.CheckedAdd.checked_add_law c.args.cost c.args.step.1 None c.in_default.ensures in
    v (g.C.Number.between_law (pos 0) (value c.args.cost +ℤ value c.args.step.1) (value c.args.cost +ℤ value c.args.step.1 +ℤ value h) exact (g.met.C.Zero.zero_fits_law exact) f (omega (arith, ints, c.requires.cost, c.requires.price)) (omega (arith, ints, c.requires.estimate h at))))

pub returns-in_default-checked_add-clause-past : goal.returns-in_default-checked_add-clause-past
returns-in_default-checked_add-clause-past g c = λ e. inr (λ h at f.
    let value = g.C.Number.value in
    let w = g.met.C.CheckedAdd.checked_add_law c.args.cost c.args.step.1 (Some c.in-Some.cost) c.in-Some.ensures in
    let x = c.index-estimates-step.result in
    let is : x ≡ h = c.index-estimates-step.is ∙ get_or_from_slice_get c.args.estimates.now c.args.step.0 h x at in
    let v = g.met.C.CheckedAdd.checked_add_law c.in-Some.cost x None c.in_default-checked_add.ensures in
    let sum : value c.args.cost +ℤ value c.args.step.1 +ℤ value h ≡ value c.in-Some.cost +ℤ value x = omega (arith, ints, w.1, ap value is) in
    v (subst g.C.Number.fits sum f))

pub returns-then-le : goal.returns-then-le
returns-then-le g c = record {
  entered =
      let value = g.C.Number.value in
      let w = g.met.C.CheckedAdd.checked_add_law c.args.cost c.args.step.1 (Some c.in-Some.cost) c.in-Some.ensures in
      let x = c.index-estimates-step.result in
      let v = g.met.C.CheckedAdd.checked_add_law c.in-Some.cost x (Some c.in-Some-checked_add.sum) c.in-Some-checked_add.ensures in
      let o = g.met.C.Number.order_law c.in-Some-checked_add.sum c.args.limit g.met.C.Integral.exact_law in
      let below : value c.in-Some-checked_add.sum ≤ℤ value c.args.limit = rw c.if-le.true at (le_means (value c.in-Some-checked_add.sum) (value c.args.limit) c.le.result (c.le.ensures ∙ ap (is_some_and is_le) o)) in (
        w.1,
        λ h at.
            let is : x ≡ h = c.index-estimates-step.is ∙ get_or_from_slice_get c.args.estimates.now c.args.step.0 h x at in
            omega (arith, ints, v.1, below, ap value is),
        refl,
        refl,
      );
  kept = λ u h. h;
  past = λ q. inl q;
  above = λ n q. inl q;
}

pub returns-in_default-clause-above : goal.returns-in_default-clause-above
returns-in_default-clause-above g c = λ n q. inl q

pub returns-in_default-checked_add-clause-above : goal.returns-in_default-checked_add-clause-above
returns-in_default-checked_add-clause-above g c = λ n q. inl q

pub returns-else-le : goal.returns-else-le
returns-else-le g c = record {
  entered = λ h at u low.
      let value = g.C.Number.value in
      let w = g.met.C.CheckedAdd.checked_add_law c.args.cost c.args.step.1 (Some c.in-Some.cost) c.in-Some.ensures in
      let x = c.index-estimates-step.result in
      let is : x ≡ h = c.index-estimates-step.is ∙ get_or_from_slice_get c.args.estimates.now c.args.step.0 h x at in
      let v = g.met.C.CheckedAdd.checked_add_law c.in-Some.cost x (Some c.in-Some-checked_add.sum) c.in-Some-checked_add.ensures in
      c.put.ensures.covered u (omega (arith, ints, w.1, v.1, ap value is, low));
  above = λ n e.
      let value = g.C.Number.value in
      let sum = c.in-Some-checked_add.sum in
      let o = g.met.C.Number.order_law sum c.args.limit g.met.C.Integral.exact_law in
      let above : value c.args.limit <ℤ value sum = rw c.if-le.false at (le_means (value sum) (value c.args.limit) c.le.result (c.le.ensures ∙ ap (is_some_and is_le) o)) in
      elim (c.put.ensures.from n e) as (λ _. (c.args.cut_off.now.least ≡ Some n) ⊎ (value c.args.limit <ℤ value n)) [
        | inl h ↦ inl h
        | inr h ↦ inr (omega (arith, ints, above, ap value h))
      ];
  kept = c.put.ensures.kept;
  past = λ q. inl (sym c.put.ensures.past ∙ q);
}
