use Rattle.std.proofs.Common.{◌≡◌, ◌≤◌, ◌++◌, List, length}
use Rattle.std.specs.Prelude.{vec_capacity}
use Rattle.pf_informed.specs.declared.branch.Branch.{Branch}
use Rattle.pf_informed.specs.Internal.Branches.{branches_at}
use Rattle.pf_informed.specs.Internal.Chains.{before_in, chain}
use Rattle.pf_informed.proofs.predecessors.Predecessors.put_branches.Given as goal

abbrev pub invariant-links : goal.invariant-links
invariant-links g l = record {
  long : l.len ≡ length l.fn.waiting.items;
  room : vec_capacity l.fn.waiting ≤ vec_capacity l.waiting;
  low : l.place ≤ length l.self-inside.links.items;
  put : (done : List Branch) × (l.waiting.items ≡ l.fn.waiting.items ++ done)
      × (done ++ branches_at l.depth (chain l.self-inside.links.items (length l.self-inside.links.items) l.place) ≡ branches_at l.depth (before_in l.self l.number));
}

abbrev pub decreases-links : goal.decreases-links
decreases-links g l = l.place
