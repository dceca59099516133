use Rattle.std.proofs.Common.{◌≡◌, [], Bor}
use Rattle.indexmap.specs.IndexSet.{IsUnique, insert_all}
use Rattle.pf_node_refs.proofs.noderefs.NodeRefs.from_nodes.Given as goal

-- the nodes so far are kept, each once
abbrev pub invariant-loop-node : goal.invariant-loop-node
invariant-loop-node g l = (l.kept.keys ≡ insert_all (λ (p q : Bor g.row.N.Denot). g.N.PartialEq.eq p.now q.now) [] l.yielded) × IsUnique (λ (p q : Bor g.row.N.Denot). g.N.PartialEq.eq p.now q.now) l.kept
