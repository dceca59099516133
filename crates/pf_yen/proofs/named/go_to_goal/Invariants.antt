use Rattle.std.proofs.Common.{ℕ, ◌<◌, ◌-◌, ◌^◌, ℤ, List, [], ◌∷◌, ◌++◌, length}
use Rattle.pf_yen.specs.Internal.NamedWays.{IsWaySoFar}
use Rattle.pf_yen.proofs.named.go_to_goal.Given as goal

abbrev pub invariant-steps : goal.invariant-steps
invariant-steps g l = record {
  inside : l.number < length l.filtered.adjacency.now.rows;
  way : (q : List ℕ) (total : ℤ) → IsWaySoFar g.C.Number.value l.filtered.adjacency.now l.filtered.onward.items l.filtered.spur q l.filtered.banned l.costs total ((l.fn.path.items ++ l.begin) ++ l.fn.first ∷ []) l.fn.first l.fn.rest
      → IsWaySoFar g.C.Number.value l.filtered.adjacency.now l.filtered.onward.items l.filtered.spur q l.filtered.banned l.costs total l.path.items l.number l.here;
}

abbrev pub decreases-steps : goal.decreases-steps
decreases-steps g l = 2 ^ 64 - length l.path.items
