use Rattle.std.proofs.Common.{take}
use Rattle.pf_components.specs.Internal.DisjointSets.{MapsByFirst}
use Rattle.pf_components.proofs.disjoint_sets.map_nodes.Given as goal

abbrev pub invariant-loop-place : goal.invariant-loop-place
invariant-loop-place g l = MapsByFirst g.N.PartialEq.eq l.nodes (take l.place l.first) l.ids l.of_node
