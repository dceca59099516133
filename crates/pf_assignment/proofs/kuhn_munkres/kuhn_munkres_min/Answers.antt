use Rattle.std.proofs.Common.{◌≡◌, subst, arith}
use Rattle.std.specs.Prelude.{neg_ℤ}
use Rattle.std.proofs.lemmas.Int.{ints}
use Rattle.pf_assignment.specs.Assignments.{assignment_total}
use Rattle.pf_assignment.proofs.MatchingBest.{fit_negated, assignment_negated, total_negated, least_of, total_fits, negation_fits}
use Rattle.pf_base.proofs.Outcomes.{if_refused, refused_as}
use Rattle.pf_assignment.proofs.kuhn_munkres.kuhn_munkres_min.Goals as goal

pub neg-requires : goal.neg-requires
neg-requires g c = λ r k h l. negation_fits g.C.Number.fits (λ x y z. g.C.Number.between_law x y z g.met.C.Integral.exact_law) (g.W.Weights.table c.args.weights.now) c.requires.weights_fit r k h l

pub kuhn_munkres-requires-clause-weights_fit : goal.kuhn_munkres-requires-clause-weights_fit
kuhn_munkres-requires-clause-weights_fit g c = fit_negated (g.W.Weights.table c.args.weights.now) (g.W.Weights.table c.in_ok-negated.negated) c.in_ok-negated.ensures.negated g.C.Number.fits c.requires.weights_fit

pub negated-requires : goal.negated-requires
negated-requires g c =
    let t = g.W.Weights.table c.args.weights.now in
    let n = g.W.Weights.table c.in_ok-negated.negated in
    let negated = c.in_ok-negated.ensures.negated in
    let f = c.in_ok-total.columns.items in
    let a = assignment_negated t n negated f c.in_ok-total.ensures.assignment in
    let e = c.in_ok-total.ensures.total in
    let k = total_negated t n negated f a in
    let back : assignment_total t f ≡ neg_ℤ (g.C.Number.value c.in_ok-total.total) = omega (arith, ints, e, k) in
    subst g.C.Number.fits back (total_fits g.C.Number.fits (λ x y z. g.C.Number.between_law x y z g.met.C.Integral.exact_law) t c.requires.weights_fit f a)

pub returns-clause-total : goal.returns-clause-total
returns-clause-total g c =
    let t = g.W.Weights.table c.args.weights.now in
    let n = g.W.Weights.table c.in_ok-negated.negated in
    let negated = c.in_ok-negated.ensures.negated in
    let f = c.in_ok-total.columns.items in
    let a = assignment_negated t n negated f c.in_ok-total.ensures.assignment in
    let e = c.in_ok-total.ensures.total in
    let k = total_negated t n negated f a in
    let z = c.negated.ensures in
    omega (arith, ints, e, k, z)

pub returns-clause-least : goal.returns-clause-least
returns-clause-least g c = least_of (g.W.Weights.table c.args.weights.now) (g.W.Weights.table c.in_ok-negated.negated) c.in_ok-negated.ensures.negated c.in_ok-total.columns.items c.in_ok-total.ensures.best

pub returns-in_err-negated : goal.returns-in_err-negated
returns-in_err-negated g c = record {
  assignment = if_refused _ c.from_residual.result _ c.from_residual.ensures.1;
  total = if_refused _ c.from_residual.result _ c.from_residual.ensures.1;
  least = if_refused _ c.from_residual.result _ c.from_residual.ensures.1;
  refused = refused_as _ c.from_residual.result _ c.from_residual.ensures.1 c.in_err-negated.ensures.refused;
}

pub returns-in_err-total : goal.returns-in_err-total
returns-in_err-total g c = record {
  assignment = if_refused _ c.from_residual-in_err-total.result _ c.from_residual-in_err-total.ensures.1;
  total = if_refused _ c.from_residual-in_err-total.result _ c.from_residual-in_err-total.ensures.1;
  least = if_refused _ c.from_residual-in_err-total.result _ c.from_residual-in_err-total.ensures.1;
  refused = refused_as _ c.from_residual-in_err-total.result _ c.from_residual-in_err-total.ensures.1 c.in_err-total.ensures.refused;
}
