use Rattle.std.proofs.Common.{[], ◌∷◌, refl, ap, ◌∙◌}
use Rattle.std.specs.Prelude.{reverse}
use Rattle.std.proofs.lemmas.List.{reverse-append}
use Rattle.pf_base.proofs.Outcomes.{on_refused, refused_as}
use Rattle.pf_deepening.proofs.way.Way.enter.Goals as goal

pub returns : goal.returns
returns g c = record {
  frame = refl;
  below = ap reverse c.in_ok-push.ensures.items ∙ reverse-append c.args.self.now.trail.items (c.args.self.now.frame ∷ []);
  marked = c.in_ok-mark.ensures.marked;
  cut_off = refl;
  refused = tt;
}

pub returns-in_err-mark : goal.returns-in_err-mark
returns-in_err-mark g c = record {
  frame = on_refused _ c.from_residual.result _ c.from_residual.ensures.1;
  below = on_refused _ c.from_residual.result _ c.from_residual.ensures.1;
  marked = on_refused _ c.from_residual.result _ c.from_residual.ensures.1;
  cut_off = refl;
  refused = refused_as _ c.from_residual.result _ c.from_residual.ensures.1 c.in_err-mark.ensures.refused;
}

pub returns-in_err-push : goal.returns-in_err-push
returns-in_err-push g c = record {
  frame = on_refused _ c.from_residual-in_err-push.result _ c.from_residual-in_err-push.ensures.1;
  below = on_refused _ c.from_residual-in_err-push.result _ c.from_residual-in_err-push.ensures.1;
  marked = on_refused _ c.from_residual-in_err-push.result _ c.from_residual-in_err-push.ensures.1;
  cut_off = refl;
  refused = refused_as _ c.from_residual-in_err-push.result _ c.from_residual-in_err-push.ensures.1 refl;
}
