use Rattle.std.proofs.Common.{◌∙◌, ap, sym, subst, arith}
use Rattle.std.specs.Prelude.{unsigned_abs}
use Rattle.num_traits.proofs.Fits.{shr-fits}
use Rattle.pf_utils.proofs.RootLemmas.{first_above, first_positive, last_below, last_only, order_means, middle_above, middle_positive, shifted_is}
use Rattle.pf_utils.proofs.square_root.candidate.Goals as goal

pub quotient_of-quotient-requires : goal.quotient_of-quotient-requires
quotient_of-quotient-requires g c =
    let exact = g.met.T.Integral.exact_law in
    let low = g.met.T.Unsigned.unsigned_law in
    let shifted = g.met.T.PrimInt.shr_law _ _ _ c.shr-root.ensures in
    let root = ap unsigned_abs (shifted ∙ shifted_is _ c.half_length.result (low c.args.n)) in
    record {
      n_in_range = c.requires.in_range;
      in_range = subst g.T.Number.fits (sym shifted) (shr-fits g.T.Number.fits (λ x y z. g.T.Number.between_law x y z exact) _ c.half_length.result (g.met.T.FixedWidth.small_fits_law 0 (omega arith)) c.requires.in_range (low c.args.n));
      positive = omega (arith, root, first_positive _ c.half_length.result c.half_length.ensures.square);
    }

pub steps-init : goal.steps-init
steps-init g c =
    let exact = g.met.T.Integral.exact_law in
    let low = g.met.T.Unsigned.unsigned_law in
    let shifted = g.met.T.PrimInt.shr_law _ _ _ c.shr-root.ensures in
    let root = ap unsigned_abs (shifted ∙ shifted_is _ c.half_length.result (low c.args.n)) in
    record {
      fits = subst g.T.Number.fits (sym shifted) (shr-fits g.T.Number.fits (λ x y z. g.T.Number.between_law x y z exact) _ c.half_length.result (g.met.T.FixedWidth.small_fits_law 0 (omega arith)) c.requires.in_range (low c.args.n));
      quotient_fits = c.quotient_of-quotient.ensures.in_range;
      positive = omega (arith, root, first_positive _ c.half_length.result c.half_length.ensures.square);
      divides = c.quotient_of-quotient.ensures.quotient;
      above = λ r e. omega (arith, root, first_above _ c.half_length.result r c.half_length.ensures.square e);
    }

pub middle-root-requires : goal.middle-root-requires
middle-root-requires g c =
    let low = g.met.T.Unsigned.unsigned_law in
    let order = g.met.T.Number.order_law c.steps.quotient c.steps.root g.met.T.Integral.exact_law in
    let less = (order_means _ _ _ c.lt.result (low c.steps.quotient) (low c.steps.root) order c.lt.ensures).0 c.steps-test.true in
    record { in_range = c.steps.invariant.fits; order = omega (arith, less) }

pub quotient_of-quotient-requires-in-steps : goal.quotient_of-quotient-requires-in-steps
quotient_of-quotient-requires-in-steps g c =
    let low = g.met.T.Unsigned.unsigned_law in
    let order = g.met.T.Number.order_law c.steps.quotient c.steps.root g.met.T.Integral.exact_law in
    let less = (order_means _ _ _ c.lt.result (low c.steps.quotient) (low c.steps.root) order c.lt.ensures).0 c.steps-test.true in
    let i = c.steps.invariant in
    record {
      n_in_range = c.requires.in_range;
      in_range = c.middle-root.ensures.in_range;
      positive = middle_positive _ _ _ _ i.divides c.middle-root.ensures.middle c.requires.positive i.positive less;
    }

pub steps-smaller : goal.steps-smaller
steps-smaller g c =
    let low = g.met.T.Unsigned.unsigned_law in
    let order = g.met.T.Number.order_law c.steps.quotient c.steps.root g.met.T.Integral.exact_law in
    let less = (order_means _ _ _ c.lt.result (low c.steps.quotient) (low c.steps.root) order c.lt.ensures).0 c.steps-test.true in
    omega (arith, c.middle-root.ensures.middle, less)

pub steps-preserved : goal.steps-preserved
steps-preserved g c =
    let low = g.met.T.Unsigned.unsigned_law in
    let order = g.met.T.Number.order_law c.steps.quotient c.steps.root g.met.T.Integral.exact_law in
    let less = (order_means _ _ _ c.lt.result (low c.steps.quotient) (low c.steps.root) order c.lt.ensures).0 c.steps-test.true in
    let i = c.steps.invariant in
    record {
      fits = c.middle-root.ensures.in_range;
      quotient_fits = c.quotient_of-quotient-in-steps.ensures.in_range;
      positive = middle_positive _ _ _ _ i.divides c.middle-root.ensures.middle c.requires.positive i.positive less;
      divides = c.quotient_of-quotient-in-steps.ensures.quotient;
      above = λ r e. middle_above _ _ _ _ r i.divides c.middle-root.ensures.middle i.positive e (i.above r e);
    }

pub returns : goal.returns
returns g c =
    let low = g.met.T.Unsigned.unsigned_law in
    let order = g.met.T.Number.order_law c.steps.quotient c.steps.root g.met.T.Integral.exact_law in
    let more = (order_means _ _ _ c.lt.result (low c.steps.quotient) (low c.steps.root) order c.lt.ensures).1 c.steps-test.false in
    let i = c.steps.invariant in
    record {
      below = last_below _ _ _ i.divides i.positive more;
      only = λ r e. last_only _ _ r (last_below _ _ _ i.divides i.positive more) e (i.above r e);
    }
