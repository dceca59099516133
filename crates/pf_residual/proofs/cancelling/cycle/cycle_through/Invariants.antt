use Rattle.std.proofs.Common.{get_or, ℕ, List}
use Rattle.pf_residual.specs.declared.cancelling.arcs.Arc.{Arc}
use Rattle.pf_residual.specs.Internal.Cancelling.{IsWayBack}
use Rattle.pf_residual.proofs.cancelling.cycle.cycle_through.Given as goal

abbrev pub arc_at : List Arc → ℕ → Arc
arc_at ends k = get_or ends k record { from = 0; to = 0 }

abbrev pub invariant-steps : goal.invariant-steps
invariant-steps g l = IsWayBack g.C.Number.value l.ends l.amounts (arc_at l.ends l.through).from l.reached.steps.items l.reached.places.items l.at l.cycle.items

abbrev pub decreases-steps : goal.decreases-steps
decreases-steps g l = l.at
