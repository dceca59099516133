use Rattle.std.proofs.Common.{◌≡◌, List, ◌++◌, Some, if◌then◌else◌}
use Rattle.std.specs.HashMap.{get}
use Rattle.std.specs.List.{list_any}
use Rattle.pf_components.proofs.connected_components.index_nodes.Given as goal

-- the nodes so far have the index
abbrev pub invariant-loop-node : goal.invariant-loop-node
invariant-loop-node g l = record {
  done : List g.row.N.Denot;
  all : done ++ l.node-iterator ≡ l.nodes.keys;
  indexed : (x : g.row.N.Denot) → get g.N.PartialEq.eq l.of_node x ≡ (if list_any (g.N.PartialEq.eq x) done then Some l.index else get g.N.PartialEq.eq l.fn.of_node x);
}
