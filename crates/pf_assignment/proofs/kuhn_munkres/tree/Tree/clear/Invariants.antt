use Rattle.std.proofs.Common.{◌≡◌, ℕ, ◌<◌, false, length}
use Rattle.std.specs.Prelude.{slice_index}
use Rattle.pf_base.specs.Places.{number}
use Rattle.pf_assignment.specs.Internal.AssignmentSteps.{flag}
use Rattle.pf_assignment.proofs.kuhn_munkres.tree.Tree.clear.Given as goal

-- the columns so far are cleared
abbrev pub invariant-loop-column : goal.invariant-loop-column
invariant-loop-column g l = record {
  rows : l.self.rows.items ≡ l.fn.self.rows.items;
  visited_len : length l.self.visited.items ≡ length l.fn.self.visited.items;
  unvisited : (j : ℕ) → j < l.column → flag l.self.visited.items j ≡ false;
  far : (j : ℕ) → j < l.column → number g.C.Number.value l.self.distances.items j ≡ g.C.Number.value g.C.Cost.greatest;
  root : (j : ℕ) → j < l.column → slice_index l.self.places.items j ≡ 0;
}
