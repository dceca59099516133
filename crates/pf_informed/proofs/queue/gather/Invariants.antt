use Rattle.std.proofs.Common.{◌≡◌, ◌++◌, length}
use Rattle.std.specs.Prelude.{◌≤ℤ◌, ◌⊎◌, Contains, IsPermutation}
use Rattle.pf_informed.specs.Internal.Waiting.{Entry}
use Rattle.pf_informed.proofs.queue.gather.Given as goal

abbrev pub invariant-entries : goal.invariant-entries
invariant-entries g l = record {
  moved : IsPermutation (l.fn.bucket.items ++ l.fn.later.items) (l.bucket.items ++ l.later.items);
  alike : (e : Entry g.row.C.Denot) → Contains l.bucket.items e → Contains l.fn.bucket.items e ⊎ (g.C.Number.value e.0 ≡ g.C.Number.value l.sum);
  above : (e : Entry g.row.C.Denot) → Contains l.later.items e → g.C.Number.value l.sum ≤ℤ g.C.Number.value e.0;
}

abbrev pub decreases-entries : goal.decreases-entries
decreases-entries g l = length l.later.items
