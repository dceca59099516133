use Rattle.std.proofs.Common.{◌≡◌, ◌≤◌, ◌+◌, ◌++◌, length, take}
use Rattle.std.specs.Prelude.{vec_capacity}
use Rattle.pf_informed.specs.Internal.Branches.{branches_at}
use Rattle.pf_informed.proofs.ways.put_branches.Given as goal

abbrev pub invariant-numbers : goal.invariant-numbers
invariant-numbers g l = record {
  room : length l.fn.waiting.items + length l.numbers ≤ vec_capacity l.waiting;
  long : length l.waiting.items ≡ length l.fn.waiting.items + l.number-index;
  put : l.waiting.items ≡ l.fn.waiting.items ++ branches_at l.depth (take l.number-index l.numbers);
}
