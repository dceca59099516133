use Rattle.std.proofs.Common.{◌≡◌, ap, ◌∙◌, sym, subst, arith, ℤ}
use Rattle.std.specs.Prelude.{pos, neg_ℤ, ◌≤ℤ◌, ◌<ℤ◌, ◌+ℤ◌, ◌↔◌, Some, None}
use Rattle.std.proofs.lemmas.Int.{ints}
use Rattle.pf_base.specs.Costs.{LiesBetween}
use Rattle.pf_assignment.proofs.kuhn_munkres.weights.absolute.Goals as goal

-- the negation of a number that is not above zero fits exactly where the sum with the greatest number that fits is not below zero
module _ (fits : ℤ → Type 0) (low top : ℤ) (range : (z : ℤ) → fits z ↔ LiesBetween low top z) (zero : fits (pos 0)) (z : ℤ) (h : z ≤ℤ pos 0) where
  negation_fits : (left : ℤ) → left ≡ top +ℤ z → pos 0 ≤ℤ left → fits (neg_ℤ z)
  negation_fits left e l = let b = ((range (pos 0)).0 zero).0 in (range (neg_ℤ z)).1 (omega (arith, ints, h, b), omega (arith, ints, e, l))

  negation_fails : (left : ℤ) → left ≡ top +ℤ z → left <ℤ pos 0 → ¬ (fits (neg_ℤ z))
  negation_fails left e l f = let t = ((range (neg_ℤ z)).0 f).1 in omega (arith, ints, e, l, t)

  negation_past : ¬ (fits (top +ℤ z)) → ¬ (fits (neg_ℤ z))
  negation_past out f =
      let b = ((range (pos 0)).0 zero).0 in
      let t = ((range (neg_ℤ z)).0 f).1 in
      out ((range (top +ℤ z)).1 (omega (arith, ints, b, t), omega (arith, ints, h)))

pub negated-requires : goal.negated-requires
negated-requires g c =
    let value = g.C.Number.value in
    let zero : value c.zero.result ≡ pos 0 = ap value c.zero.ensures ∙ g.met.C.Zero.zero_law g.met.C.Integral.exact_law in
    let sum = (g.met.C.CheckedAdd.checked_add_law c.greatest.result c.args.least (Some c.in-Some.left) c.in-Some.ensures).1 in
    let level : value c.zero.result ≤ℤ value c.in-Some.left = c.if-is_below.ensures in
    negation_fits g.C.Number.fits (value g.C.Cost.least) (value g.C.Cost.greatest) g.met.C.Cost.range_law (g.met.C.Zero.zero_fits_law g.met.C.Integral.exact_law) (value c.args.least) c.requires (value c.in-Some.left)
    (sum ∙ ap (λ x. value x +ℤ value c.args.least) c.greatest.ensures) (omega (arith, ints, zero, level))

pub returns-then-is_below : goal.returns-then-is_below
returns-then-is_below g c =
    let value = g.C.Number.value in
    let zero : value c.zero.result ≡ pos 0 = ap value c.zero.ensures ∙ g.met.C.Zero.zero_law g.met.C.Integral.exact_law in
    let sum = (g.met.C.CheckedAdd.checked_add_law c.greatest.result c.args.least (Some c.in-Some.left) c.in-Some.ensures).1 in
    let below : value c.in-Some.left <ℤ value c.zero.result = c.if-is_below.ensures in
    negation_fails g.C.Number.fits (value g.C.Cost.least) (value g.C.Cost.greatest) g.met.C.Cost.range_law (g.met.C.Zero.zero_fits_law g.met.C.Integral.exact_law) (value c.args.least) c.requires (value c.in-Some.left)
    (sum ∙ ap (λ x. value x +ℤ value c.args.least) c.greatest.ensures) (omega (arith, ints, zero, below))

pub returns-else-is_below : goal.returns-else-is_below
returns-else-is_below g c =
    let value = g.C.Number.value in
    let zero : value c.zero.result ≡ pos 0 = ap value c.zero.ensures ∙ g.met.C.Zero.zero_law g.met.C.Integral.exact_law in
    let sum = (g.met.C.CheckedAdd.checked_add_law c.greatest.result c.args.least (Some c.in-Some.left) c.in-Some.ensures).1 in
    let level : value c.zero.result ≤ℤ value c.in-Some.left = c.if-is_below.ensures in (
      negation_fits g.C.Number.fits (value g.C.Cost.least) (value g.C.Cost.greatest) g.met.C.Cost.range_law (g.met.C.Zero.zero_fits_law g.met.C.Integral.exact_law) (value c.args.least) c.requires (value c.in-Some.left)
          (sum ∙ ap (λ x. value x +ℤ value c.args.least) c.greatest.ensures) (omega (arith, ints, zero, level)),
      c.negated.ensures,
    )

pub returns-in-None : goal.returns-in-None
returns-in-None g c =
    let value = g.C.Number.value in
    let past = g.met.C.CheckedAdd.checked_add_law c.greatest.result c.args.least None c.in-None.ensures in
    negation_past g.C.Number.fits (value g.C.Cost.least) (value g.C.Cost.greatest) g.met.C.Cost.range_law (g.met.C.Zero.zero_fits_law g.met.C.Integral.exact_law) (value c.args.least) c.requires
    (λ f. past (subst (λ x. g.C.Number.fits (value x +ℤ value c.args.least)) (sym c.greatest.ensures) f))
