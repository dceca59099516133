use Rattle.std.proofs.Common.{length}
use Rattle.pf_residual.specs.Internal.CurrentArcs.{AreArcs}
use Rattle.pf_residual.proofs.current_arcs.CurrentArcs.add_row.Given as goal

abbrev pub invariant-loop-end : goal.invariant-loop-end
invariant-loop-end g l = AreArcs (length l.levels) l.self.targets.items l.self.places.items l.self.ends.items
