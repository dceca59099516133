use Rattle.std.proofs.Common.{ℕ, ◌≤◌, length}
use Rattle.pf_core.specs.declared.labels.Label.{Label}
use Rattle.pf_core.specs.Labels.{HasLabel}
use Rattle.pf_informed.specs.Internal.Waiting.{IsQueue, IsWaiting}
use Rattle.pf_informed.proofs.queue.take_least.Given as goal

abbrev pub invariant-entries : goal.invariant-entries
invariant-entries g l = record {
  queue : IsQueue g.C.Number.value l.labels.items l.estimates.items l.queue.entries;
  waits : (k : ℕ) (m : Label g.row.C.Denot) → HasLabel l.labels.items k m → IsWaiting g.C.Number.value l.estimates.items l.fn.queue.entries k m → IsWaiting g.C.Number.value l.estimates.items l.queue.entries k m;
  fewer : length l.queue.entries ≤ length l.fn.queue.entries;
}

abbrev pub decreases-entries : goal.decreases-entries
decreases-entries g l = length l.queue.entries
