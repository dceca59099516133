use Rattle.std.proofs.Common.{◌∙◌, inl, inr, refl, subst}
use Rattle.pf_residual.proofs.SquareSums.{read_negative, read_above, read_sum}
use Rattle.pf_flow.proofs.makers.sum_of_square.Goals as goal

pub returns-then-has_negative-clause-refused : goal.returns-then-has_negative-clause-refused
returns-then-has_negative-clause-refused g c =
    let m = c.args.capacities.now in
    inr (inl (refl, read_negative g.C.Number.value m c.as_slice-numbers.ensures.matrix c.requires c.as_slice-numbers.result.now c.as_slice-numbers.ensures.values c.if-has_negative.ensures))

pub sum_of-requires : goal.sum_of-requires
sum_of-requires g c = c.if-has_negative.ensures

pub returns-in-Some-clause-above : goal.returns-in-Some-clause-above
returns-in-Some-clause-above g c =
    let m = c.args.capacities.now in
    read_above g.C.Number.value m c.as_slice-numbers.ensures.matrix c.requires c.as_slice-numbers.result.now c.as_slice-numbers.ensures.values c.if-has_negative.ensures

pub returns-in-Some-clause-fits : goal.returns-in-Some-clause-fits
returns-in-Some-clause-fits g c =
    let m = c.args.capacities.now in
    subst g.C.Number.fits (read_sum g.C.Number.value m c.as_slice-numbers.ensures.matrix c.requires c.as_slice-numbers.result.now c.as_slice-numbers.ensures.values) c.in-Some.ensures.0

pub returns-in-Some-clause-sum : goal.returns-in-Some-clause-sum
returns-in-Some-clause-sum g c =
    let m = c.args.capacities.now in
    c.in-Some.ensures.1 ∙ read_sum g.C.Number.value m c.as_slice-numbers.ensures.matrix c.requires c.as_slice-numbers.result.now c.as_slice-numbers.ensures.values

pub returns-in-None-clause-refused : goal.returns-in-None-clause-refused
returns-in-None-clause-refused g c =
    let m = c.args.capacities.now in
    let value = g.C.Number.value in
    let above = read_above value m c.as_slice-numbers.ensures.matrix c.requires c.as_slice-numbers.result.now c.as_slice-numbers.ensures.values c.if-has_negative.ensures in
    let same = read_sum value m c.as_slice-numbers.ensures.matrix c.requires c.as_slice-numbers.result.now c.as_slice-numbers.ensures.values in
    inr (inr (refl, above, subst (λ z. ¬ (g.C.Number.fits z)) same c.in-None.ensures))
