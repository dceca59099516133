use Rattle.std.proofs.Common.{◌≡◌, ◌+◌, ◌++◌, length}
use Rattle.std.specs.Prelude.{◌↔◌, Contains}
use Rattle.pf_informed.specs.Internal.Waiting.{Entry}
use Rattle.pf_informed.proofs.fringe_lists.FringeLists.take_in.Given as goal

abbrev pub invariant-entries : goal.invariant-entries
invariant-entries g l = record {
  same : (e : Entry g.row.C.Denot) → Contains (l.fn.queue.entries ++ l.fn.self.current.items) e ↔ Contains (l.queue.entries ++ l.self.current.items) e;
  later : l.self.later.items ≡ l.fn.self.later.items;
  limit : l.self.limit ≡ l.fn.self.limit;
  count : length l.queue.entries + length l.self.current.items ≡ length l.fn.queue.entries + length l.fn.self.current.items;
}

abbrev pub decreases-entries : goal.decreases-entries
decreases-entries g l = length l.queue.entries
