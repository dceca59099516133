use Rattle.std.proofs.Common.{ℕ, ◌≤◌, ◌<◌}
use Rattle.pf_two_sided.specs.Internal.Sides.{opposite}
use Rattle.pf_two_sided.proofs.bfs_level.first_meeting.Given as goal

abbrev pub invariant-numbers : goal.invariant-numbers
invariant-numbers g l = (j k : ℕ) (x : g.G.TwoSidedGraph.Node) → l.first ≤ j → j < l.number → g.G.TwoSidedGraph.stands l.graph l.side j x → ¬ (g.G.TwoSidedGraph.stands l.graph (opposite l.side) k x)
