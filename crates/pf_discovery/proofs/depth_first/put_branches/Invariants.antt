use Rattle.std.proofs.Common.{◌≡◌, ◌+◌, ◌≤◌, ◌<◌, ◌^◌, ◌++◌, ℕ, List, length, reverse, vec_capacity}
use Rattle.std.specs.Prelude.{Contains}
use Rattle.pf_discovery.specs.DepthFirst.{branches_at, not_visited}
use Rattle.pf_discovery.proofs.depth_first.put_branches.Given as goal

abbrev pub invariant-numbers : goal.invariant-numbers
invariant-numbers g l = record {
  ends : (k : ℕ) → Contains l.numbers.items k → k < 2 ^ 32;
  room : length l.waiting.items + length l.numbers.items ≤ vec_capacity l.waiting;
  put : (done : List ℕ) × (l.fn.numbers.items ≡ l.numbers.items ++ done) × (l.waiting.items ≡ l.fn.waiting.items ++ branches_at l.depth (reverse (not_visited l.visited done)));
}

abbrev pub decreases-numbers : goal.decreases-numbers
decreases-numbers g l = length l.numbers.items
