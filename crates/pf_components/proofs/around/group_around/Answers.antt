use Rattle.std.proofs.lemmas.Result.{IfOk-from_err}
use Rattle.pf_base.proofs.Outcomes.{refused_by}
use Rattle.pf_components.proofs.around.group_around.Goals as goal

pub returns-in_err-push : goal.returns-in_err-push
returns-in_err-push g c = record {
  members = IfOk-from_err _ _ c.from_residual.ensures.0;
  refused = refused_by _ c.from_residual.result c.from_residual.ensures.1;
}

pub returns-in_err-clone : goal.returns-in_err-clone
returns-in_err-clone g c = record {
  members = IfOk-from_err _ _ c.from_residual-in_err-clone.ensures.0;
  refused = refused_by _ c.from_residual-in_err-clone.result c.from_residual-in_err-clone.ensures.1;
}

pub returns-in_err-push-2 : goal.returns-in_err-push-2
returns-in_err-push-2 g c = record {
  members = IfOk-from_err _ _ c.from_residual-in_err-push-2.ensures.0;
  refused = refused_by _ c.from_residual-in_err-push-2.result c.from_residual-in_err-push-2.ensures.1;
}
