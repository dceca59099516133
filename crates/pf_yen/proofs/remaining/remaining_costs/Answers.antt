use Rattle.std.proofs.lemmas.Result.{IfOk-from_err}
use Rattle.pf_base.proofs.Outcomes.{refused_as}
use Rattle.std.proofs.Common.{◌∙◌, ap, length}
use Rattle.pf_yen.proofs.remaining.remaining_costs.Goals as goal

pub returns-in_err-costs : goal.returns-in_err-costs
returns-in_err-costs g c = record {
  known = IfOk-from_err _ _ c.from_residual.ensures.0;
  refused = refused_as _ c.from_residual.result c.in_err-costs.field-0.0 c.from_residual.ensures.1 c.in_err-costs.ensures.refused;
}

pub returns-in_default : goal.returns-in_default
returns-in_default g c = record { known = tt; refused = tt }

pub returns-else-are_settled : goal.returns-else-are_settled
returns-else-are_settled g c = record { known = tt; refused = tt }

pub are_settled-requires : goal.are_settled-requires
are_settled-requires g c = let w = rw c.in-Some.is at c.in_ok-costs.ensures.wide in ap length c.deref.ensures.value ∙ w

pub returns-then-are_settled-clause-known : goal.returns-then-are_settled-clause-known
returns-then-are_settled-clause-known g c = rw c.deref.ensures.value at (c.are_settled.ensures c.if-are_settled.true)

pub returns-then-are_settled-clause-refused : goal.returns-then-are_settled-clause-refused
returns-then-are_settled-clause-refused g c = tt
