use Rattle.std.proofs.Common.{rules}
use Rattle.pf_node_refs.proofs.noderefs.NodeRefs.from_one.Goals as goal

pub returns-clause-one : goal.returns-clause-one
returns-clause-one g c = search rules
