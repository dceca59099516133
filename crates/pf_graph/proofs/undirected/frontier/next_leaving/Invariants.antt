use Rattle.std.specs.Prelude.{Contains, false}
use Rattle.std.specs.BinaryHeap.{IsHeap, heap_items, heap_len}
use Rattle.std.specs.declared.cmp.Reverse.{Reverse}
use Rattle.pf_graph.specs.declared.undirected.steps.Step.{Step}
use Rattle.pf_graph.specs.Internal.Spanning.Frontier.{IsMarked, waiting_order}
use Rattle.pf_graph.proofs.undirected.frontier.next_leaving.Given as goal

abbrev pub invariant-entries : goal.invariant-entries
invariant-entries g l = record {
  ordered : IsHeap (waiting_order g.N.Ord.cmp g.C.Ord.cmp) (heap_items l.queue);
  from : (r : Reverse (Step g.row.N.Denot g.row.C.Denot)) → Contains (heap_items l.queue) r → Contains (heap_items l.fn.queue) r;
  kept : (r : Reverse (Step g.row.N.Denot g.row.C.Denot)) → Contains (heap_items l.fn.queue) r → IsMarked false l.fn.covered r.0.number → Contains (heap_items l.queue) r;
}

abbrev pub decreases-entries : goal.decreases-entries
decreases-entries g l = heap_len l.queue
