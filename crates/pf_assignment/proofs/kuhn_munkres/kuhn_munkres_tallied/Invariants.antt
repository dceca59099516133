use Rattle.std.proofs.Common.{◌≡◌, ◌≤◌, ◌+◌, ◌*◌, length}
use Rattle.pf_assignment.specs.Internal.AssignmentSteps.{IsWide, IsMatchedIn}
use Rattle.pf_assignment.proofs.kuhn_munkres.kuhn_munkres_tallied.Given as goal

-- the rows so far are matched, each with at most as many ticks as there are rows
abbrev pub invariant-loop-row : goal.invariant-loop-row
invariant-loop-row g l = record {
  matched : IsMatchedIn g.C.Number.value (g.W.Weights.table l.weights) l.matching;
  rows : length l.matching.column_of.items ≡ l._row;
  wide : IsWide (g.W.Weights.table l.weights).columns l.tree;
  ticked : l.fn.tally ≤ l.tally;
  rounds : l.tally ≤ l.fn.tally + l._row * (g.W.Weights.table l.weights).rows;
}
