use Rattle.std.proofs.Common.{ℕ, ◌<◌, subst, sym, arith}
use Rattle.pf_cycles.specs.Cycles.{Repeats}
use Rattle.pf_cycles.proofs.CycleLemmas.{cycle_by_multiple, cycle_repeats, repeats_rounds}
use Rattle.pf_base.proofs.Outcomes.{if_refused, refused_as}
use Rattle.pf_cycles.proofs.directed.cycle_detection.floyd_method.floyd.Goals as goal

pub first_value-value-requires-clause-steps : goal.first_value-value-requires-clause-steps
first_value-value-requires-clause-steps g c =
    let r = c.requires.steps in
    let steps = c.in_ok-length.steps in
    let m = c.in_ok-length.ensures.cycle r.0 r.1 in
    let rounds = m.2.multiple in
    let again = repeats_rounds g.met.T.Eq.laws r.1.alike steps c.in_ok-length.length rounds.0 (cycle_repeats g.met.T.Eq.laws r.1.alike c.in_ok-length.length m.0 steps m.1 (omega (arith, m.2.from_index))) in
    (r.0, r.1, c.in_ok-length.ensures.value r.0 r.1, subst (λ (n : ℕ). Repeats g.T.PartialEq.eq r.0 c.args.start steps n) (sym rounds.1) again)

pub returns-in_err-length : goal.returns-in_err-length
returns-in_err-length g c = record {
  cycle = λ next a. if_refused _ c.from_residual.result _ c.from_residual.ensures.1;
  value = λ next a. if_refused _ c.from_residual.result _ c.from_residual.ensures.1;
  refused = λ next a. refused_as _ c.from_residual.result _ c.from_residual.ensures.1 (c.in_err-length.ensures.refused next a);
}

pub returns : goal.returns
returns g c = record {
  cycle = λ next a.
      let m = c.in_ok-length.ensures.cycle next a in
      let met = c.in_ok-length.ensures.value next a in
      let f = c.first_value-value.ensures in
      let eq = g.T.PartialEq.eq in
      let index = c.first_value-value.result.1 in
      let rounds = m.2.multiple in
      cycle_by_multiple g.met.T.Eq.laws a.alike c.in_ok-length.length m.0 index rounds.0 m.1
      (subst (λ (n : ℕ). 0 < n) rounds.1 m.2.positive)
      (subst (λ (n : ℕ). Repeats eq next c.args.start index n) rounds.1 (f.repeats next a met))
      (λ k l. subst (λ (n : ℕ). ¬ (Repeats eq next c.args.start k n)) rounds.1 (f.first next a met k l));
  value = λ next a. c.first_value-value.ensures.value next a (c.in_ok-length.ensures.value next a);
  refused = λ next a. tt;
}
