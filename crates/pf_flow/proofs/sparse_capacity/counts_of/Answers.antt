use Rattle.std.proofs.Common.{arith}
use Rattle.std.proofs.lemmas.Result.{IfOk-from_err}
use Rattle.pf_base.proofs.Outcomes.{refused_by}
use Rattle.pf_flow.proofs.sparse_capacity.counts_of.Goals as goal

pub returns-in_err-resize-clause-len : goal.returns-in_err-resize-clause-len
returns-in_err-resize-clause-len g c = IfOk-from_err _ _ c.from_residual.ensures.0

pub returns-in_err-resize-clause-refused : goal.returns-in_err-resize-clause-refused
returns-in_err-resize-clause-refused g c = refused_by _ c.from_residual.result c.from_residual.ensures.1

pub offset_bounds-edges-place : goal.offset_bounds-edges-place
offset_bounds-edges-place g c = c.edges.auto.place-end

pub bounds-edges-place : goal.bounds-edges-place
bounds-edges-place g c = c.edges-test.true

pub overflow_sub-place : goal.overflow_sub-place
overflow_sub-place g c = c.if-place-gt0.true

pub offset_bounds-edges-place-then-place-gt0 : goal.offset_bounds-edges-place-then-place-gt0
offset_bounds-edges-place-then-place-gt0 g c = omega (arith, c.edges-test.true)

pub bounds-edges-place-then-place-gt0 : goal.bounds-edges-place-then-place-gt0
bounds-edges-place-then-place-gt0 g c = omega (arith, c.edges-test.true)

pub edges-smaller : goal.edges-smaller
edges-smaller g c = omega (arith, c.edges-test.true)
