use Rattle.std.proofs.Common.{◌≤◌, ◌+◌, ◌-◌, length}
use Rattle.pf_assignment.specs.Internal.AssignmentSteps.{IsTreeTo}
use Rattle.pf_assignment.proofs.kuhn_munkres.tree.Tree.grow.Given as goal

-- the tree so far, the column to be visited next, and the ticks
abbrev pub invariant-visits : goal.invariant-visits
invariant-visits g l = record {
  tree : IsTreeTo g.C.Number.value (g.W.Weights.table l.weights) l.matching l.self l.column;
  ticked : l.fn.tally ≤ l.tally;
  rounds : l.tally ≤ l.fn.tally + length l.self.rows.items;
}

abbrev pub decreases-visits : goal.decreases-visits
decreases-visits g l = length l.matching.column_of.items + 1 - length l.self.rows.items
