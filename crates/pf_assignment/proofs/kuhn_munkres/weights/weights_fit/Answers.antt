use Rattle.std.proofs.Common.{rules, ◌≡◌, arith, subst, ℕ}
use Rattle.std.specs.Prelude.{pos, neg_ℤ, ◌↔◌, IsTrue, ◌+◌, ◌*◌}
use Rattle.std.proofs.lemmas.Int.{ints}
use Rattle.pf_assignment.proofs.MatchingWeights.{weights_fit_by, weight_fits}
use Rattle.pf_assignment.proofs.kuhn_munkres.weights.weights_fit.Goals as goal

pub returns-in-Some : goal.returns-in-Some
returns-in-Some g c =
    let l = c.least_weight-least.ensures in
    let e = l.2 in
    let r = c.in-Some.ensures.1 in
    let v : g.C.Number.value c.in-Some.greatest ≡ pos l.0 = omega (arith, ints, e, r) in
    weights_fit_by g.C.Number.fits (λ x y z. g.C.Number.between_law x y z g.met.C.Integral.exact_law) (g.W.Weights.table c.args.weights.now) g.met.C.SignedCost.negation_law l.0 l.1 c.multiple_fits.result (subst (λ (r : ℕ). IsTrue c.multiple_fits.result ↔ g.C.Number.fits (pos ((2 * r + 4) * l.0))) c.rows.ensures (c.multiple_fits.ensures l.0 v))

pub returns-in-None : goal.returns-in-None
returns-in-None g c =
    let l = c.least_weight-least.ensures in
    let e = l.2 in
    let n : pos l.0 ≡ neg_ℤ (g.C.Number.value c.least_weight-least.result) = omega (arith, ints, e) in (
      λ h. search rules,
      λ f. absurd (c.in-None.ensures (subst g.C.Number.fits n (weight_fits g.C.Number.fits (λ x y z. g.C.Number.between_law x y z g.met.C.Integral.exact_law) (g.W.Weights.table c.args.weights.now) (g.met.C.Zero.zero_fits_law g.met.C.Integral.exact_law) l.0 l.1 f))),
    )
