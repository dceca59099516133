use Rattle.std.proofs.Common.{sym, ◌∙◌}
use Rattle.pf_cycles.proofs.FloydLemmas.{at_start, behind_start}
use Rattle.pf_base.proofs.Outcomes.{if_refused, refused_as}
use Rattle.pf_cycles.proofs.directed.cycle_detection.floyd_method.floyd_partial.Goals as goal

pub returns-in_err-length : goal.returns-in_err-length
returns-in_err-length g c = record {
  cycle = λ next a. if_refused _ c.from_residual.result _ c.from_residual.ensures.1;
  value = λ next a. if_refused _ c.from_residual.result _ c.from_residual.ensures.1;
  refused = λ next a. refused_as _ c.from_residual.result _ c.from_residual.ensures.1 (c.in_err-length.ensures.refused next a);
}

pub returns-then-eq : goal.returns-then-eq
returns-then-eq g c = record {
  cycle = λ next a.
      let m = c.in_ok-length.ensures.cycle next a in
      (m.0, m.1, at_start g.met.T.Eq.laws a.alike c.in_ok-length.value c.in_ok-length.length m.0 c.in_ok-length.steps m.1 m.2 (c.in_ok-length.ensures.value next a) (sym c.eq.ensures ∙ c.if-eq.true));
  value = λ next a. g.met.T.Eq.laws.symm c.args.start c.in_ok-length.value ∙ sym c.eq.ensures ∙ c.if-eq.true;
  refused = λ next a. tt;
}

pub returns : goal.returns
returns g c = record {
  cycle = λ next a.
      let m = c.in_ok-length.ensures.cycle next a in
      (m.0, m.1, behind_start g.met.T.Eq.laws a.alike c.in_ok-length.value c.in_ok-length.length m.0 c.in_ok-length.steps m.1 m.2 (c.in_ok-length.ensures.value next a) (sym c.eq.ensures ∙ c.if-eq.false));
  value = λ next a. c.in_ok-length.ensures.value next a;
  refused = λ next a. tt;
}
