use Rattle.std.proofs.Common.{◌≡◌, ◌++◌}
use Rattle.pf_search.specs.Internal.Descents.{waiting_at}
use Rattle.pf_search.proofs.directed.dfs.descent.Descent.put.Given as goal

abbrev pub invariant-nodes : goal.invariant-nodes
invariant-nodes g l = record {
  visited : l.self.visited ≡ l.fn.self.visited;
  path : l.self.path.items ≡ l.fn.self.path.items;
  pushed : l.self.waiting.items ≡ l.fn.self.waiting.items ++ waiting_at l.depth l.yielded;
}
