use Rattle.std.proofs.Common.{◌∙◌, pos, arith, ap}
use Rattle.std.specs.Prelude.{◌≤ℤ◌}
use Rattle.std.proofs.lemmas.Int.{ints}
use Rattle.pf_base.specs.Places.{number}
use Rattle.pf_residual.proofs.FillLemmas.{number_read, each_more}
use Rattle.pf_flow.proofs.makers.has_negative.Goals as goal

pub returns-then-is_below : goal.returns-then-is_below
returns-then-is_below g c =
    let value = g.C.Number.value in
    let zero = ap value c.zero.ensures ∙ g.met.C.Zero.zero_law g.met.C.Integral.exact_law in
    let low = c.if-is_below.ensures in
    let here = number_read value c.args.numbers.now c.numbers.number-index c.number-item.result c.numbers-test.true c.number-item.is in
    (c.numbers.number-index, c.numbers-test.true, omega (arith, ints, zero, low, here))

pub numbers-preserved : goal.numbers-preserved
numbers-preserved g c =
    let value = g.C.Number.value in
    let zero = ap value c.zero.ensures ∙ g.met.C.Zero.zero_law g.met.C.Integral.exact_law in
    let low = c.if-is_below.ensures in
    let here = number_read value c.args.numbers.now c.numbers.number-index c.number-item.result c.numbers-test.true c.number-item.is in
    each_more (λ k. pos 0 ≤ℤ number value c.args.numbers.now k) c.numbers.number-index c.numbers.invariant (omega (arith, ints, zero, low, here))
