use Rattle.std.proofs.Common.{◌≡◌, ◌≤◌, length}
use Rattle.pf_informed.specs.Internal.Waiting.{IsQueue}
use Rattle.pf_informed.specs.Internal.Fringe.{listed, StillWait}
use Rattle.pf_informed.proofs.fringe_lists.FringeLists.take_within.Given as goal

abbrev pub invariant-entries : goal.invariant-entries
invariant-entries g l = record {
  limit : l.self.limit ≡ l.fn.self.limit;
  queue : IsQueue g.C.Number.value l.labels.items l.estimates.items (listed l.self);
  waits : StillWait g.C.Number.value l.labels.items l.estimates.items (listed l.fn.self) (listed l.self);
  fewer : length (listed l.self) ≤ length (listed l.fn.self);
}

abbrev pub decreases-entries : goal.decreases-entries
decreases-entries g l = length l.self.current.items
