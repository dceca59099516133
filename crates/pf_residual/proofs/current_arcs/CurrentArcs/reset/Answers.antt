use Rattle.std.proofs.lemmas.Result.{IfOk-from_err}
use Rattle.pf_base.proofs.Outcomes.{refused_by}
use Rattle.pf_residual.proofs.current_arcs.CurrentArcs.reset.Goals as goal

pub returns-in_err-resize-clause-arcs : goal.returns-in_err-resize-clause-arcs
returns-in_err-resize-clause-arcs g c = IfOk-from_err _ _ c.from_residual.ensures.0

pub returns-in_err-resize-clause-refused : goal.returns-in_err-resize-clause-refused
returns-in_err-resize-clause-refused g c = refused_by _ c.from_residual.result c.from_residual.ensures.1

pub returns-in_err-resize-2-clause-arcs : goal.returns-in_err-resize-2-clause-arcs
returns-in_err-resize-2-clause-arcs g c = IfOk-from_err _ _ c.from_residual-in_err-resize-2.ensures.0

pub returns-in_err-resize-2-clause-refused : goal.returns-in_err-resize-2-clause-refused
returns-in_err-resize-2-clause-refused g c = refused_by _ c.from_residual-in_err-resize-2.result c.from_residual-in_err-resize-2.ensures.1
