use Rattle.std.proofs.Common.{◌∙◌, refl, arith}
use Rattle.pf_base.proofs.Outcomes.{refused_as}
use Rattle.pf_yen.proofs.backward.Backward.go_back.Goals as goal

pub steps-init : goal.steps-init
steps-init g c = refl

pub overflow_sub-place : goal.overflow_sub-place
overflow_sub-place g c = omega (arith, c.if-place-eq0.false)

pub index-step-requires : goal.index-step-requires
index-step-requires g c = omega (arith, c.if-place-eq0.false, c.if-place-len.false, c.len.ensures)

pub returns-in_default-clause-wide : goal.returns-in_default-clause-wide
returns-in_default-clause-wide g c = c.steps.invariant

pub returns-in_err-note-clause-wide : goal.returns-in_err-note-clause-wide
returns-in_err-note-clause-wide g c = c.note.ensures.wide ∙ c.steps.invariant

pub returns-in_err-note-clause-refused : goal.returns-in_err-note-clause-refused
returns-in_err-note-clause-refused g c = refused_as _ c.from_residual.result c.in_err-note.field-0.0 c.from_residual.ensures.1 c.in_err-note.ensures.refused

pub steps-smaller : goal.steps-smaller
steps-smaller g c = omega (arith, c.steps-test.true)

pub steps-preserved : goal.steps-preserved
steps-preserved g c = c.note.ensures.wide ∙ c.steps.invariant

pub returns-after-steps-clause-wide : goal.returns-after-steps-clause-wide
returns-after-steps-clause-wide g c = c.steps.invariant

pub returns-then-place-eq0-clause-wide : goal.returns-then-place-eq0-clause-wide
returns-then-place-eq0-clause-wide g c = c.steps.invariant
