use Rattle.std.proofs.Common.{◌≡◌, ◌++◌, List, false}
use Rattle.pf_informed.specs.CheapestPaths.{most_items}
use Rattle.pf_informed.specs.Internal.Ways.{AreGathered}
use Rattle.pf_informed.proofs.directed.astar_bag.gather.Given as goal

abbrev pub invariant-paths : goal.invariant-paths
invariant-paths g l = record {
  ready : l.solution.refused ≡ false;
  gathered : (given : List (List g.row.N.Denot)) × (l.fn.solution.left ≡ given ++ l.solution.left) × AreGathered g.N.PartialEq.eq l.paths.items given;
}

abbrev pub decreases-paths : goal.decreases-paths
decreases-paths g l = most_items l.solution
