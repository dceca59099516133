use Rattle.std.proofs.lemmas.Result.{IfOk-from_err}
use Rattle.pf_base.proofs.Outcomes.{refused_as}
use Rattle.std.proofs.Common.{◌∙◌, ap, length}
use Rattle.pf_yen.proofs.reduced.guide_to_goals.Goals as goal

pub returns-in_err-remaining : goal.returns-in_err-remaining
returns-in_err-remaining g c = record {
  guides = IfOk-from_err _ _ c.from_residual.ensures.0;
  refused = refused_as _ c.from_residual.result c.in_err-remaining.field-0.0 c.from_residual.ensures.1 c.in_err-remaining.ensures.refused;
}

pub returns-in_default : goal.returns-in_default
returns-in_default g c = record { guides = tt; refused = tt }

pub returns-in_err-reduced : goal.returns-in_err-reduced
returns-in_err-reduced g c = record {
  guides = IfOk-from_err _ _ c.from_residual-in_err-reduced.ensures.0;
  refused = refused_as _ c.from_residual-in_err-reduced.result c.in_err-reduced.field-0.0 c.from_residual-in_err-reduced.ensures.1 c.in_err-reduced.ensures.refused;
}

pub reduced_rows-requires : goal.reduced_rows-requires
reduced_rows-requires g c = let r = rw c.in-Some.is at c.in_ok-remaining.ensures.known in ap length c.deref.ensures.value ∙ r.wide

pub returns-clause-guides : goal.returns-clause-guides
returns-clause-guides g c = let r = rw c.in-Some.is at c.in_ok-remaining.ensures.known in (r, rw c.deref.ensures.value at c.in_ok-reduced.ensures.reduced)

pub returns-clause-refused : goal.returns-clause-refused
returns-clause-refused g c = tt
