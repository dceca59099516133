use Rattle.std.proofs.Common.{◌≡◌, ◌∙◌, ◌/◌, arith, ap, pos, subst, sym}
use Rattle.std.specs.Prelude.{◌*ℤ◌, ◌+ℤ◌, ◌≤ℤ◌}
use Rattle.std.specs.Int.{int_min}
use Rattle.std.proofs.lemmas.Int.{ints}
use Rattle.pf_estimated_graphs.proofs.ProductLemmas.{ArePart, first_bit, next_bit, next_no_bit, no_bit_left, nothing_more}
use Rattle.pf_estimated_graphs.proofs.products.capped_product.Goals as goal
use Rattle.pf_estimated_graphs.proofs.products.capped_product.Goals.{then-left-eq1, else-left-eq1}

pub bits-init : goal.bits-init
bits-init g c =
    let value = g.C.Number.value in
    let high = ((g.met.C.Cost.range_law (pos 0)).0 (g.met.C.Zero.zero_fits_law g.met.C.Integral.exact_law)).1 in
    first_bit (value g.C.Cost.greatest) high (value c.zero-product.result) (value c.args.cost) c.args.count (ap value c.zero-product.ensures ∙ g.met.C.Zero.zero_law g.met.C.Integral.exact_law) c.requires.from_zero

pub capped_sum-product-requires-clause-left : goal.capped_sum-product-requires-clause-left
capped_sum-product-requires-clause-left g c = c.bits.invariant.from_zero

pub capped_sum-product-requires-clause-right : goal.capped_sum-product-requires-clause-right
capped_sum-product-requires-clause-right g c =
    let value = g.C.Number.value in
    elim c.if-left-eq1.branch as (λ _. pos 0 ≤ℤ value c.if-left-eq1.part) [
      | then-left-eq1 w ↦ subst (λ z. pos 0 ≤ℤ value z) (sym w.part-is) c.bits.invariant.double_from_zero
      | else-left-eq1 w ↦ let none : value c.if-left-eq1.part ≡ pos 0 = ap value w.part-is ∙ c.requires.nothing in omega (arith, ints, none)
    ]

pub capped_sum-double-requires-clause-left : goal.capped_sum-double-requires-clause-left
capped_sum-double-requires-clause-left g c = c.bits.invariant.double_from_zero

pub capped_sum-double-requires-clause-right : goal.capped_sum-double-requires-clause-right
capped_sum-double-requires-clause-right g c = c.bits.invariant.double_from_zero

pub bits-preserved : goal.bits-preserved
bits-preserved g c =
    let value = g.C.Number.value in
    let top = value g.C.Cost.greatest in
    let total = pos c.args.count *ℤ value c.args.cost in
    let high = ((g.met.C.Cost.range_law (pos 0)).0 (g.met.C.Zero.zero_fits_law g.met.C.Integral.exact_law)).1 in
    let sum = value c.bits.product in
    elim c.if-left-eq1.branch as (λ _. ArePart top total (value c.capped_sum-product.result) (value c.capped_sum-double.result) (c.bits.left / 2)) [
      | then-left-eq1 w ↦ next_bit top high total sum (value c.bits.double) (value c.capped_sum-product.result) (value c.capped_sum-double.result) c.bits.left c.bits.invariant c.capped_sum-double.ensures
          (c.capped_sum-product.ensures ∙ ap (λ z. int_min (sum +ℤ value z) top) w.part-is) w.if-left-eq1.true
      | else-left-eq1 w ↦ next_no_bit top high total sum (value c.bits.double) (value c.capped_sum-product.result) (value c.capped_sum-double.result) c.bits.left c.bits.invariant c.capped_sum-double.ensures
          (c.capped_sum-product.ensures ∙ nothing_more sum (value c.if-left-eq1.part) top (ap value w.part-is ∙ c.requires.nothing) c.bits.invariant.fits) (omega (arith, w.if-left-eq1.false))
    ]

pub returns : goal.returns
returns g c =
    let value = g.C.Number.value in
    let high = ((g.met.C.Cost.range_law (pos 0)).0 (g.met.C.Zero.zero_fits_law g.met.C.Integral.exact_law)).1 in
    no_bit_left (value g.C.Cost.greatest) high (pos c.args.count *ℤ value c.args.cost) (value c.bits.product) (value c.bits.double) c.bits.left (omega arith) c.bits.invariant
