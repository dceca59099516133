use Rattle.std.proofs.Common.{◌≡◌, take}
use Rattle.indexmap.specs.IndexSet.{insert_all}
use Rattle.pf_base.specs.NodeRefs.{nodes_of}
use Rattle.pf_edge_lists.proofs.names.add_names.Given as goal

-- the names so far are numbered
abbrev pub invariant-loop-name : goal.invariant-loop-name
invariant-loop-name g l = nodes_of l.names.keys ≡ insert_all g.N.PartialEq.eq (nodes_of l.initial.names.keys) (take l.name-index l.given)
