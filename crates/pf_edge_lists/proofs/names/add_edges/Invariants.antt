use Rattle.std.proofs.Common.{◌≡◌, take, map}
use Rattle.indexmap.specs.IndexSet.{insert_all}
use Rattle.pf_base.specs.NodeRefs.{nodes_of}
use Rattle.pf_edge_lists.specs.EdgeLists.{ends_of}
use Rattle.pf_edge_lists.proofs.NumberedNames.{numbered}
use Rattle.pf_edge_lists.proofs.names.add_edges.Given as goal

-- the edges so far are numbered by their names
abbrev pub invariant-loop-edge : goal.invariant-loop-edge
invariant-loop-edge g l = record {
  names : nodes_of l.names.keys ≡ insert_all g.N.PartialEq.eq (nodes_of l.initial.names.keys) (ends_of (take l.edge-index l.edges));
  numbered : l.numbered.items ≡ map (numbered g.N.PartialEq.eq (insert_all g.N.PartialEq.eq (nodes_of l.initial.names.keys) (ends_of (take l.edge-index l.edges)))) (take l.edge-index l.edges);
}
