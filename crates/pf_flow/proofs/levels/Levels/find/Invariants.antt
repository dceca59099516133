use Rattle.std.proofs.Common.{◌-◌}
use Rattle.pf_residual.specs.Internal.Levels.{HasFound}
use Rattle.pf_residual.specs.Internal.CurrentArcs.{AreArcs}
use Rattle.pf_flow.proofs.levels.Levels.find.Given as goal

abbrev pub invariant-loop-at : goal.invariant-loop-at
invariant-loop-at g l = record {
  found : HasFound (g.S.FlowStore.network l.store) l.self.levels.items l.self.parents.items l.self.queue.items l.at;
  arcs : AreArcs (g.S.FlowStore.network l.store).vertices l.self.arcs.targets.items l.self.arcs.places.items l.self.arcs.ends.items;
}

abbrev pub decreases-loop-at : goal.decreases-loop-at
decreases-loop-at g l = (g.S.FlowStore.network l.store).vertices - l.at
