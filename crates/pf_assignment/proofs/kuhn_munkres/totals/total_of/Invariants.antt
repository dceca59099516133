use Rattle.std.proofs.Common.{◌≡◌}
use Rattle.std.specs.Prelude.{slice_index}
use Rattle.pf_base.specs.Sums.{sum_to}
use Rattle.pf_assignment.proofs.kuhn_munkres.totals.total_of.Given as goal

-- the total of the rows so far
abbrev pub invariant-loop-row : goal.invariant-loop-row
invariant-loop-row g l = g.C.Number.value l.total ≡ sum_to (λ r. (g.W.Weights.table l.weights).at r (slice_index l.column_of r)) l.row
