use Rattle.std.proofs.Common.{◌≡◌, refl}
use Rattle.std.proofs.lemmas.Result.{IfOk-from_err}
use Rattle.pf_base.proofs.Outcomes.{refused_as}
use Rattle.pf_matrix.specs.declared.error.MatrixFormatError.TheVariants.{OutOfMemory}
use Rattle.pf_matrix.proofs.matrix.Matrix.new.Goals as goal

pub returns-in_err-values : goal.returns-in_err-values
returns-in_err-values g c = record {
  rows = IfOk-from_err _ _ c.from_residual.ensures.0;
  columns = IfOk-from_err _ _ c.from_residual.ensures.0;
  values = IfOk-from_err _ _ c.from_residual.ensures.0;
  matrix = IfOk-from_err _ _ c.from_residual.ensures.0;
  refused = refused_as (λ e. e ≡ OutOfMemory) c.from_residual.result OutOfMemory c.from_residual.ensures.1 refl;
}

pub returns-clause-rows : goal.returns-clause-rows
returns-clause-rows g c = refl

pub returns-clause-columns : goal.returns-clause-columns
returns-clause-columns g c = refl

pub returns-clause-refused : goal.returns-clause-refused
returns-clause-refused g c = tt
