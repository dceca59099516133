use Rattle.std.proofs.Common.{◌≡◌, ◌≤◌, ◌+◌, ◌-◌, length}
use Rattle.std.specs.Prelude.{◌≤ℤ◌, slice_index}
use Rattle.pf_residual.specs.Networks.{path_bound, IsNetwork, KeepsCapacities}
use Rattle.pf_residual.specs.Internal.AugmentingPaths.{potential_in}
use Rattle.pf_flow.specs.Internal.Phases.{HoldsLevels}
use Rattle.pf_flow.proofs.augmenting.run_phases.Given as goal

-- the flow so far, the levels found for it, and no more ticks than the potential
abbrev pub invariant-phases : goal.invariant-phases
invariant-phases g l = record {
  network : IsNetwork g.C.Number.fits (g.S.FlowStore.network l.store);
  kept : KeepsCapacities (g.S.FlowStore.network l.fn.store) (g.S.FlowStore.network l.store);
  total : (g.S.FlowStore.network l.fn.store).total ≤ℤ (g.S.FlowStore.network l.store).total;
  found : HoldsLevels (g.S.FlowStore.network l.store) l.found;
  path_len : length l.path.items ≡ (g.S.FlowStore.network l.store).vertices;
  places_len : length l.places.items ≡ (g.S.FlowStore.network l.store).vertices;
  ticked : l.fn.tally ≤ l.tally;
  bound : l.tally ≤ l.fn.tally + potential_in (g.S.FlowStore.network l.fn.store) (g.S.FlowStore.network l.store) (slice_index l.found.levels.items);
}

abbrev pub decreases-phases : goal.decreases-phases
decreases-phases g l = l.fn.tally + path_bound (g.S.FlowStore.network l.fn.store) - l.tally
