use Rattle.std.proofs.Common.{nat_eq}
use Rattle.std.specs.List.{IsDistinct}
use Rattle.pf_base.specs.NodeRefs.{HasSameNodes, nodes_of}
use Rattle.pf_table_searches.proofs.loops.table_nodes_at.Given as goal

-- the nodes so far, each once
abbrev pub invariant-starts : goal.invariant-starts
invariant-starts g l = HasSameNodes nat_eq l.found (nodes_of l.yielded) × IsDistinct nat_eq l.found
