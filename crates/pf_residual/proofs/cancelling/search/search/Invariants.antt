use Rattle.std.proofs.Common.{◌≡◌, ◌≤◌, ◌-◌, length}
use Rattle.pf_residual.specs.Internal.Cancelling.{IsReached, IsExpanded}
use Rattle.pf_residual.proofs.cancelling.search.search.Given as goal

abbrev pub invariant-steps : goal.invariant-steps
invariant-steps g l = record {
  reached : IsReached g.C.Number.value l.ends l.amounts l.start l.reached.steps.items l.reached.places.items;
  wide : length l.reached.places.items ≡ length l.rows.items;
  expanded : IsExpanded g.C.Number.value l.ends l.amounts l.at l.reached.steps.items l.reached.places.items;
  within : l.at ≤ length l.reached.steps.items;
}

abbrev pub decreases-steps : goal.decreases-steps
decreases-steps g l = length l.rows.items - l.at
