use Rattle.std.proofs.Common.{◌≡◌, ℕ, ◌<◌}
use Rattle.std.specs.Prelude.{◌≤ℤ◌, ◌⊎◌, pos}
use Rattle.pf_assignment.specs.Internal.AssignmentSteps.{IsBeyond, IsEither}
use Rattle.pf_assignment.proofs.kuhn_munkres.weights.least_weight.Given as goal

-- the least of the rows so far
abbrev pub invariant-loop-row : goal.invariant-loop-row
invariant-loop-row g l = record {
  lower : g.C.Number.value l.least ≤ℤ pos 0;
  each : (r c : ℕ) → r < l.row → c < (g.W.Weights.table l.weights).columns → IsBeyond (g.C.Number.value l.least) ((g.W.Weights.table l.weights).at r c);
  reached : (g.C.Number.value l.least ≡ pos 0) ⊎ ((r : ℕ) × (c : ℕ) × (r < l.row) × (c < (g.W.Weights.table l.weights).columns) × IsEither (g.C.Number.value l.least) ((g.W.Weights.table l.weights).at r c));
}
