use Rattle.std.proofs.Common.{take}
use Rattle.std.specs.List.{IsDistinct}
use Rattle.pf_base.specs.NodeRefs.{HasSameNodes}
use Rattle.pf_orders.proofs.nodes.nodes_of.Given as goal

-- the clones of the nodes so far, each once
abbrev pub invariant-nodes : goal.invariant-nodes
invariant-nodes g l = HasSameNodes g.N.PartialEq.eq l.set.keys (take l.node-index l.nodes) × IsDistinct g.N.PartialEq.eq l.set.keys
