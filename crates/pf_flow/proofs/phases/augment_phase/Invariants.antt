use Rattle.std.proofs.Common.{◌≡◌, ◌+◌, ◌-◌}
use Rattle.std.specs.Prelude.{slice_index}
use Rattle.pf_residual.specs.Networks.{path_bound, IsNetwork}
use Rattle.pf_residual.specs.Internal.CurrentArcs.{AreArcs}
use Rattle.pf_flow.specs.Internal.Phases.{IsAugmented}
use Rattle.pf_flow.proofs.phases.augment_phase.Given as goal

-- the flow so far, and the levels, of which some arcs are retired
abbrev pub invariant-paths : goal.invariant-paths
invariant-paths g l = record {
  network : IsNetwork g.C.Number.fits (g.S.FlowStore.network l.store);
  augmented : IsAugmented (slice_index l.fn.found.levels.items) (g.S.FlowStore.network l.fn.store) (g.S.FlowStore.network l.store) l.fn.tally l.tally;
  levels : l.found.levels.items ≡ l.fn.found.levels.items;
  arcs : AreArcs (g.S.FlowStore.network l.fn.store).vertices l.found.arcs.targets.items l.found.arcs.places.items l.found.arcs.ends.items;
}

abbrev pub decreases-paths : goal.decreases-paths
decreases-paths g l = l.fn.tally + path_bound (g.S.FlowStore.network l.fn.store) - l.tally
