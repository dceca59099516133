use Rattle.std.proofs.Common.{inl}
use Rattle.std.proofs.lemmas.Result.{IfOk-from_err}
use Rattle.pf_base.proofs.Outcomes.{refused_as}
use Rattle.pf_grid.proofs.grid.Grid.from_coordinates.Goals as goal

pub returns-in_err-positions-clause-made : goal.returns-in_err-positions-clause-made
returns-in_err-positions-clause-made g c = IfOk-from_err _ _ c.from_residual.ensures.0

pub returns-in_err-positions-clause-refused : goal.returns-in_err-positions-clause-refused
returns-in_err-positions-clause-refused g c = refused_as _ c.from_residual.result _ c.from_residual.ensures.1 (inl c.in_err-positions.ensures.refused)

pub returns-in_err-grid-clause-made : goal.returns-in_err-grid-clause-made
returns-in_err-grid-clause-made g c = IfOk-from_err _ _ c.from_residual-in_err-grid.ensures.0

pub returns-in_err-grid-clause-refused : goal.returns-in_err-grid-clause-refused
returns-in_err-grid-clause-refused g c = refused_as _ c.from_residual-in_err-grid.result _ c.from_residual-in_err-grid.ensures.1 c.in_err-grid.ensures.refused
