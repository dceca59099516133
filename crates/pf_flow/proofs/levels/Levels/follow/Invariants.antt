use Rattle.std.proofs.Common.{◌≡◌, ◌<◌, ◌≤◌, ◌+◌, ℕ, length, Some}
use Rattle.std.specs.Prelude.{slice_get, slice_index}
use Rattle.pf_residual.specs.Internal.Levels.{HasFound}
use Rattle.pf_residual.specs.Internal.CurrentArcs.{AreArcs}
use Rattle.pf_flow.proofs.levels.Levels.follow.Given as goal

-- the search so far; the vertex is still at its place, and no end so far is more than one level above it
abbrev pub invariant-loop-end : goal.invariant-loop-end
invariant-loop-end g l = record {
  found : HasFound (g.S.FlowStore.network l.store) l.self.levels.items l.self.parents.items l.self.queue.items l.at;
  more : l.at < length l.self.queue.items;
  from : slice_index l.self.queue.items l.at ≡ l.from;
  level : slice_index l.self.levels.items l.from ≡ l.level;
  followed : (i : ℕ) (end : ℕ × ℕ) → i < l.end-index → slice_get l.end-items i ≡ Some end → slice_index l.self.levels.items end.0 ≤ l.level + 1;
  arcs : AreArcs (g.S.FlowStore.network l.store).vertices l.self.arcs.targets.items l.self.arcs.places.items l.self.arcs.ends.items;
}
