use Rattle.std.proofs.Common.{arith}
use Rattle.pf_cycles.proofs.CycleLemmas.{cycle_first, cycle_repeats}
use Rattle.pf_base.proofs.Outcomes.{if_refused, refused_as}
use Rattle.pf_cycles.proofs.directed.cycle_detection.brent_method.brent.Goals as goal

pub first_value-value-requires : goal.first_value-value-requires
first_value-value-requires g c =
    let r = c.requires.steps in
    let m = c.in_ok-length.ensures.cycle r.0 r.1 in
    record {
      within = c.in_ok-known.ensures.within;
      steps = (
        r.0,
        r.1,
        c.in_ok-known.ensures.value r.0 (c.in_ok-length.ensures.before r.0 r.1),
        cycle_repeats g.met.T.Eq.laws r.1.alike c.in_ok-length.length m.0 c.in_ok-length.steps m.1 (omega (arith, m.2.sum, m.2.from_index)),
      );
    }

pub returns-in_err-length : goal.returns-in_err-length
returns-in_err-length g c = record {
  cycle = λ next a. if_refused _ c.from_residual.result _ c.from_residual.ensures.1;
  value = λ next a. if_refused _ c.from_residual.result _ c.from_residual.ensures.1;
  refused = λ next a. refused_as _ c.from_residual.result _ c.from_residual.ensures.1 (c.in_err-length.ensures.refused next a);
}

pub returns : goal.returns
returns g c = record {
  cycle = λ next a.
      let m = c.in_ok-length.ensures.cycle next a in
      let known = c.in_ok-known.ensures.value next (c.in_ok-length.ensures.before next a) in
      let f = c.first_value-value.ensures in
      cycle_first g.met.T.Eq.laws a.alike c.in_ok-length.length m.0 c.first_value-value.result.1 m.1 (f.repeats next a known) (f.first next a known);
  value = λ next a. c.first_value-value.ensures.value next a (c.in_ok-known.ensures.value next (c.in_ok-length.ensures.before next a));
  refused = λ next a. tt;
}
