use Rattle.std.proofs.Common.{◌≡◌, ◌++◌, length, List}
use Rattle.std.specs.List.{AllByRecursion}
use Rattle.pf_discovery.specs.declared.depth_first.Branch.{Branch}
use Rattle.pf_discovery.specs.DepthFirst.{IsVisited}
use Rattle.pf_discovery.proofs.depth_first.DepthFirst.waiting_branch.Given as goal

abbrev pub invariant-branches : goal.invariant-branches
invariant-branches g l = record {
  given : l.self.given ≡ l.fn.self.given;
  visited : l.self.visited.items ≡ l.fn.self.visited.items;
  path : l.self.path.items ≡ l.fn.self.path.items;
  dropped : (passed : List Branch) × (l.fn.self.waiting.items ≡ l.self.waiting.items ++ passed) × AllByRecursion (λ (b : Branch). IsVisited l.fn.self.visited.items b.number) passed;
}

abbrev pub decreases-branches : goal.decreases-branches
decreases-branches g l = length l.self.waiting.items
