use Rattle.std.proofs.Common.{◌≡◌, ◌++◌, ℕ, List, take}
use Rattle.pf_orders.specs.Internal.Rounds.{Falls, AreFreed}
use Rattle.pf_orders.proofs.rounds.release.Given as goal

abbrev pub invariant-targets : goal.invariant-targets
invariant-targets g l = record {
  falls : Falls (take l.target-index l.row) l.fn.counts.items l.counts.items;
  freed : (freed : List ℕ) × (l.next.items ≡ l.fn.next.items ++ freed) × AreFreed l.fn.counts.items l.counts.items freed;
}
