use Rattle.std.specs.List.{IsDistinct}
use Rattle.pf_base.specs.NodeRefs.{HasSameNodes, nodes_of}
use Rattle.pf_discovery.proofs.discovery.clones_of.Given as goal

-- the clones of the starts so far, each once
abbrev pub invariant-starts : goal.invariant-starts
invariant-starts g l = HasSameNodes g.N.PartialEq.eq l.nodes.keys (nodes_of l.yielded) × IsDistinct g.N.PartialEq.eq l.nodes.keys
