use Rattle.std.proofs.Common.{nat_eq, take}
use Rattle.std.specs.List.{IsDistinct}
use Rattle.pf_base.specs.NodeRefs.{HasSameNodes}
use Rattle.pf_table_functions.proofs.table_nodes.table_nodes_of.Given as goal

-- the nodes so far, each once
abbrev pub invariant-nodes : goal.invariant-nodes
invariant-nodes g l = HasSameNodes nat_eq l.found (take l.node-index l.nodes) × IsDistinct nat_eq l.found
