use Rattle.std.proofs.Common.{◌≡◌, ℕ, ◌<◌}
use Rattle.std.specs.Prelude.{◌≤ℤ◌, ◌⊎◌}
use Rattle.pf_assignment.specs.Internal.AssignmentSteps.{IsBeyond, IsEither}
use Rattle.pf_assignment.proofs.kuhn_munkres.weights.least_of_row.Given as goal

-- the least of the columns so far
abbrev pub invariant-loop-column : goal.invariant-loop-column
invariant-loop-column g l = record {
  lower : g.C.Number.value l.least ≤ℤ g.C.Number.value l.fn.least;
  each : (c : ℕ) → c < l.column → IsBeyond (g.C.Number.value l.least) ((g.W.Weights.table l.weights).at l.row c);
  reached : (g.C.Number.value l.least ≡ g.C.Number.value l.fn.least) ⊎ ((c : ℕ) × (c < l.column) × IsEither (g.C.Number.value l.least) ((g.W.Weights.table l.weights).at l.row c));
}
