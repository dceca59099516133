use Rattle.std.proofs.Common.{rules, ◌≡◌, ◌+◌, ◌*◌, arith, ap, sym, subst, ◌∙◌}
use Rattle.std.specs.Prelude.{pos}
use Rattle.std.proofs.lemmas.Int.{ints}
use Rattle.pf_assignment.proofs.MatchingWeights.{not_below, multiple_more, multiple_fails}
use Rattle.pf_assignment.proofs.kuhn_munkres.weights.multiple_fits.Goals as goal

pub two_more-requires-clause-total : goal.two_more-requires-clause-total
two_more-requires-clause-total g c =
    let n = not_below (g.C.Number.value c.args.weight) c.requires in
    let e = c.loop-row.invariant.sum n.0 n.1 in
    omega (arith, ints, e)

pub returns-in-None : goal.returns-in-None
returns-in-None g c = λ w e.
    let i = c.loop-row.invariant.sum w e in (
      λ h. search rules,
      λ f. absurd (multiple_fails g.C.Number.fits (λ x y z. g.C.Number.between_law x y z g.met.C.Integral.exact_law) (g.met.C.Zero.zero_fits_law g.met.C.Integral.exact_law) c.loop-row._row c.args.rows (omega arith) w _ _ i e f c.in-None.ensures),
    )

pub loop-row-preserved : goal.loop-row-preserved
loop-row-preserved g c = record {
  sum = λ w e. multiple_more c.loop-row._row w _ _ _ (c.loop-row.invariant.sum w e) e c.in-Some-two_more.ensures.1;
  fits = subst g.C.Number.fits (sym c.in-Some-two_more.ensures.1) c.in-Some-two_more.ensures.0;
}

pub returns : goal.returns
returns g c = λ w e.
    let i = c.loop-row.invariant.sum w e in
    let r : c.loop-row._row ≡ c.args.rows = omega arith in (
      λ h. subst g.C.Number.fits (i ∙ ap (λ k. pos ((2 * k + 4) * w)) r) c.loop-row.invariant.fits,
      λ f. search rules,
    )
