use Rattle.std.proofs.Common.{refl}
use Rattle.std.proofs.lemmas.Result.{IfOk-from_err}
use Rattle.pf_base.proofs.Outcomes.{refused_as}
use Rattle.pf_base.specs.declared.error.PathError.TheVariants.{OutOfMemory}
use Rattle.pf_yen.proofs.banned.Banned.nothing.Goals as goal

pub returns-in_err-resize : goal.returns-in_err-resize
returns-in_err-resize g c = record {
  nothing = IfOk-from_err _ _ c.from_residual.ensures.0;
  refused = refused_as _ c.from_residual.result OutOfMemory c.from_residual.ensures.1 refl;
}

pub returns-clause-nothing : goal.returns-clause-nothing
returns-clause-nothing g c = c.new.ensures.items
