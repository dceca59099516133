use Rattle.std.proofs.Common.{◌≡◌, length, List}
use Rattle.std.specs.Prelude.{map}
use Rattle.std.specs.Borrow.{Bor}
use Rattle.std.specs.BinaryHeap.{IsHeap, heap_items}
use Rattle.pf_graph.specs.EdgesByReference.{shown}
use Rattle.pf_union_find.specs.Nodes.{StandsFor}
use Rattle.pf_graph.specs.Internal.Spanning.Frontier.{RunsAsWritten, Waits, IsGrown, waiting_order}
use Rattle.pf_graph.proofs.Spanning.FrontierLemmas.{open_count}
use Rattle.pf_graph.proofs.undirected.prim.grow.Given as goal

abbrev pub invariant-turns : goal.invariant-turns
invariant-turns g l = record {
  len : length l.covered ≡ length l.chains.lasts.items;
  ordered : IsHeap (waiting_order g.N.Ord.cmp g.C.Ord.cmp) (heap_items l.queue);
  waits : Waits l.chains l.covered (heap_items l.queue);
  grown : (nodes : List (Bor g.row.N.Denot)) (edges : List (g.row.N.Denot × g.row.N.Denot × g.row.C.Denot)) (x : g.row.N.Denot) → RunsAsWritten g.N.PartialEq.eq nodes edges l.chains → StandsFor g.N.PartialEq.eq nodes l.start x
      → IsGrown g.N.PartialEq.eq g.N.Ord.cmp g.C.Ord.cmp g.C.Clone.is_clone nodes edges x l.covered (map shown l.tree.items);
}

abbrev pub decreases-turns : goal.decreases-turns
decreases-turns g l = open_count l.covered
