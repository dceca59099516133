use Rattle.std.proofs.Common.{◌≡◌, take}
use Rattle.std.specs.Prelude.{All, map}
use Rattle.pf_graph.specs.Internal.NumberedEdges.{IsNumbered, IsWeighed}
use Rattle.pf_graph.proofs.undirected.numbered.number_into.Given as goal

abbrev pub invariant-loop-edge : goal.invariant-loop-edge
invariant-loop-edge g l = record {
  numbered : IsNumbered g.N.PartialEq.eq l.nodes.keys (take l.edge-index l.edges) l.numbered.items;
  in_order : map (λ e. e.2.edge.now) l.numbered.items ≡ take l.edge-index l.edges;
  weighed : All (IsWeighed g.F.Fn l.weigh) l.numbered.items;
}
