use Rattle.std.proofs.Common.{◌≡◌, ◌++◌, List, length, reverse}
use Rattle.pf_search.specs.Internal.Descents.{AllHeld}
use Rattle.pf_search.specs.declared.directed.dfs.descent.Waiting.{Waiting}
use Rattle.pf_search.proofs.directed.dfs.descent.Descent.enter.Given as goal

abbrev pub invariant-waiting : goal.invariant-waiting
invariant-waiting g l = record {
  keys : g.M.Numbering.keys l.self.visited ≡ g.M.Numbering.keys l.fn.self.visited;
  path : l.self.path.items ≡ l.fn.self.path.items;
  dropped : (passed : List (Waiting g.row.N.Denot)) × (reverse l.fn.self.waiting.items ≡ passed ++ reverse l.self.waiting.items) × AllHeld g.N.PartialEq.eq (g.M.Numbering.keys l.fn.self.visited) passed;
}

abbrev pub decreases-waiting : goal.decreases-waiting
decreases-waiting g l = length l.self.waiting.items
