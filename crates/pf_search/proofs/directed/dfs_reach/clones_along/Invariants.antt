use Rattle.std.proofs.Common.{take}
use Rattle.std.specs.List.{AllZip}
use Rattle.pf_core.specs.Nodes.{StandsFor}
use Rattle.pf_search.proofs.directed.dfs_reach.clones_along.Given as goal

abbrev pub invariant-numbers : goal.invariant-numbers
invariant-numbers g l = AllZip (StandsFor g.N.PartialEq.eq l.nodes) (take l.number-index l.numbers) l.path.items
