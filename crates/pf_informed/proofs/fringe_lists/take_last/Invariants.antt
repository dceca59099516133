use Rattle.std.proofs.Common.{◌≤◌, length}
use Rattle.std.specs.Prelude.{Contains}
use Rattle.pf_informed.specs.Internal.Waiting.{Entry}
use Rattle.pf_informed.specs.Internal.Fringe.{StillWait}
use Rattle.pf_informed.proofs.fringe_lists.take_last.Given as goal

abbrev pub invariant-entries : goal.invariant-entries
invariant-entries g l = record {
  within : (e : Entry g.row.C.Denot) → Contains l.entries.items e → Contains l.fn.entries.items e;
  waits : StillWait g.C.Number.value l.labels.items l.estimates.items l.fn.entries.items l.entries.items;
  fewer : length l.entries.items ≤ length l.fn.entries.items;
}

abbrev pub decreases-entries : goal.decreases-entries
decreases-entries g l = length l.entries.items
