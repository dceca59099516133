use Rattle.std.proofs.Common.{◌≡◌, ℕ, length}
use Rattle.pf_core.specs.Queue.{IsQueue, IsFront, IsOpen}
use Rattle.pf_core.proofs.queue.least_open.Given as goal

abbrev pub invariant-entries : goal.invariant-entries
invariant-entries g l = record {
  queue : IsQueue g.C.Number.value l.labels.items l.queue.items;
  front : (k : ℕ) → IsFront k l.fn.queue.front → IsOpen l.labels.items k → l.queue.front ≡ l.fn.queue.front;
}

abbrev pub decreases-entries : goal.decreases-entries
decreases-entries g l = length l.queue.items
