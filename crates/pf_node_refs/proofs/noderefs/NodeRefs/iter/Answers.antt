use Rattle.std.proofs.Common.{rules}
use Rattle.pf_node_refs.proofs.noderefs.NodeRefs.iter.Goals as goal

pub returns-clause-nodes : goal.returns-clause-nodes
returns-clause-nodes g c = search rules
