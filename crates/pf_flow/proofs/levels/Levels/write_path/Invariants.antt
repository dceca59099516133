use Rattle.std.proofs.Common.{◌≤◌}
use Rattle.std.specs.Prelude.{slice_index}
use Rattle.pf_residual.specs.Internal.Levels.{IsTreePath}
use Rattle.pf_flow.proofs.levels.Levels.write_path.Given as goal

-- the path from the place on
abbrev pub invariant-loop-place : goal.invariant-loop-place
invariant-loop-place g l = record {
  path : IsTreePath l.self.levels.items l.self.parents.items l.to l.path l.place;
  place : l.place ≤ slice_index l.self.levels.items l.to;
}

abbrev pub decreases-loop-place : goal.decreases-loop-place
decreases-loop-place g l = l.place
