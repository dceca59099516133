use Rattle.std.proofs.Common.{◌≡◌, ◌≤◌, ◌+◌, ℕ, length, slice_get, Some}
use Rattle.std.specs.BinaryHeap.{IsHeap, heap_items}
use Rattle.pf_graph.specs.declared.undirected.chains.End.{End}
use Rattle.pf_graph.specs.Internal.Spanning.Chained.{IsAt}
use Rattle.pf_graph.specs.Internal.Spanning.Frontier.{Gains, waiting_order}
use Rattle.pf_graph.proofs.undirected.frontier.push_leaving.Given as goal

abbrev pub invariant-edges : goal.invariant-edges
invariant-edges g l = record {
  within : l.last ≤ length l.chains.ends.items;
  there : (p : ℕ) → p + 1 ≡ l.last → (d : End × End) × (slice_get l.chains.ends.items p ≡ Some d) × IsAt l.number d;
  ordered : IsHeap (waiting_order g.N.Ord.cmp g.C.Ord.cmp) (heap_items l.queue);
  gains : Gains l.chains l.number l.last l.covered (heap_items l.fn.queue) (heap_items l.queue);
}

abbrev pub decreases-edges : goal.decreases-edges
decreases-edges g l = l.last
