use Rattle.std.proofs.Common.{◌≡◌, ◌∙◌, ◌+◌, None, Some, arith, ap, length, subst}
use Rattle.std.proofs.lemmas.Int.{ints}
use Rattle.pf_base.specs.Places.{number}
use Rattle.pf_base.specs.Sums.{sum_to}
use Rattle.pf_residual.proofs.ChangeSums.{sum_more}
use Rattle.pf_residual.proofs.FillLemmas.{number_read}
use Rattle.pf_residual.proofs.SquareSums.{part_unfit}
use Rattle.pf_flow.proofs.makers.sum_of.Goals as goal

pub numbers-init : goal.numbers-init
numbers-init g c = ap g.C.Number.value c.zero-sum.ensures ∙ g.met.C.Zero.zero_law g.met.C.Integral.exact_law

pub numbers-preserved : goal.numbers-preserved
numbers-preserved g c =
    let value = g.C.Number.value in
    let xs = c.args.numbers.now in
    let i = c.numbers.number-index in
    let here = number_read value xs i c.number-item.result c.numbers-test.true c.number-item.is in
    let more = sum_more (number value xs) i in
    let e = c.numbers.invariant in
    let s = g.met.C.CheckedAdd.checked_add_law c.numbers.sum c.number-item.result (Some c.in-Some.more) c.in-Some.ensures in
    let sum = s.1 in
    omega (arith, ints, here, more, e, sum)

pub returns-in_default : goal.returns-in_default
returns-in_default g c =
    let value = g.C.Number.value in
    let exact = g.met.C.Integral.exact_law in
    let xs = c.args.numbers.now in
    let i = c.numbers.number-index in
    let here = number_read value xs i c.number-item.result c.numbers-test.true c.number-item.is in
    let more = sum_more (number value xs) i in
    let e = c.numbers.invariant in
    let none = g.met.C.CheckedAdd.checked_add_law c.numbers.sum c.number-item.result None c.in_default.ensures in
    part_unfit (λ x y z. g.C.Number.between_law x y z exact) (g.met.C.Zero.zero_fits_law exact) (number value xs) (i + 1) (length xs) (omega (arith, c.numbers-test.true)) c.requires
    (λ f. none (subst g.C.Number.fits (omega (arith, ints, here, more, e)) f))

pub returns : goal.returns
returns g c =
    let value = g.C.Number.value in
    let xs = c.args.numbers.now in
    let all : c.numbers.number-index ≡ length xs = omega arith in
    let e = c.numbers.invariant ∙ ap (sum_to (number value xs)) all in
    (subst g.C.Number.fits e c.known.ensures, e)
