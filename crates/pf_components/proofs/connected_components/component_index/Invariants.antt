use Rattle.std.proofs.Common.{take}
use Rattle.pf_components.specs.Components.{MapsToGreatest}
use Rattle.pf_components.proofs.connected_components.component_index.Given as goal

abbrev pub invariant-loop-index : goal.invariant-loop-index
invariant-loop-index g l = MapsToGreatest g.N.PartialEq.eq (take l.index l.components) l.of_node
