use Rattle.std.proofs.Common.{◌<◌, ℕ, length}
use Rattle.std.specs.Prelude.{◌⊎◌}
use Rattle.pf_orders.specs.declared.component_search.Segment.{Segment}
use Rattle.pf_orders.specs.Internal.ComponentSearch.{IsAt}
use Rattle.pf_orders.proofs.component_search.join_segments.Given as goal

abbrev pub invariant-segments : goal.invariant-segments
invariant-segments g l = record {
  kept : (i : ℕ) (c : Segment) → IsAt l.segments.items i c → IsAt l.fn.segments.items i c;
  stays : (i : ℕ) (c : Segment) → IsAt l.fn.segments.items i c → IsAt l.segments.items i c ⊎ (l.place < c.begin);
}

abbrev pub decreases-segments : goal.decreases-segments
decreases-segments g l = length l.segments.items
