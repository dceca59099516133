use Rattle.std.proofs.Common.{◌∙◌, arith, inl, inr, refl, ap, subst}
use Rattle.std.specs.Prelude.{◌≤ℤ◌}
use Rattle.std.proofs.lemmas.Int.{ints}
use Rattle.num_traits.specs.Laws.{Checks}
use Rattle.pf_flow.proofs.changes.plan_change.Goals as goal

pub returns-then-is_below-clause-refused : goal.returns-then-is_below-clause-refused
returns-then-is_below-clause-refused g c =
    let zero = ap g.C.Number.value c.zero.ensures ∙ g.met.C.Zero.zero_law g.met.C.Integral.exact_law in
    let low = c.if-is_below.ensures in
    inr (inl (refl, omega (arith, ints, zero, low)))

pub sum_after-requires-clause-old : goal.sum_after-requires-clause-old
sum_after-requires-clause-old g c = c.capacity_of-old.ensures

pub returns-clause-planned : goal.returns-clause-planned
returns-clause-planned g c =
    let zero = ap g.C.Number.value c.zero.ensures ∙ g.met.C.Zero.zero_law g.met.C.Integral.exact_law in
    let low = c.if-is_below.ensures in
    let sum = subst (Checks g.C.Number.value g.C.Number.fits _) c.in-Some.is c.in_ok-sum.ensures.sum in
    record { old = c.capacity_of-old.ensures; low = omega (arith, ints, zero, low); sum = sum.1 }

pub returns-in_default-clause-refused : goal.returns-in_default-clause-refused
returns-in_default-clause-refused g c =
    let zero = ap g.C.Number.value c.zero.ensures ∙ g.met.C.Zero.zero_law g.met.C.Integral.exact_law in
    let low = c.if-is_below.ensures in
    inr (inr (refl, subst (λ z. z ≤ℤ g.C.Number.value c.args.number) zero low, subst (Checks g.C.Number.value g.C.Number.fits _) c.in_default.is c.in_ok-sum.ensures.sum))
