use Rattle.std.proofs.Common.{◌≡◌, length, take}
use Rattle.std.specs.List.{AllZip}
use Rattle.pf_graph.specs.Internal.Spanning.Chained.{HasNumbers, AreLinked}
use Rattle.pf_graph.proofs.undirected.chains.chains_of.Given as goal

abbrev pub invariant-loop-edge : goal.invariant-loop-edge
invariant-loop-edge g l = record {
  len : length l.lasts.items ≡ l.count;
  ends : AllZip HasNumbers (take l.edge-index l.listed) l.ends.items;
  linked : AreLinked l.ends.items l.lasts.items;
}
