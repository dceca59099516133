use Rattle.std.proofs.Common.{◌≡◌, ℕ, ◌<◌, ◌≤◌}
use Rattle.std.specs.Prelude.{◌-ℤ◌, neg_ℤ, slice_index}
use Rattle.pf_base.specs.Places.{number}
use Rattle.pf_assignment.specs.Internal.AssignmentSteps.{flag, raised}
use Rattle.pf_assignment.proofs.kuhn_munkres.matching.lower_rows.Given as goal

-- the potentials so far are lowered, and the others are as they were
abbrev pub invariant-loop-row : goal.invariant-loop-row
invariant-loop-row g l = record {
  done : (i : ℕ) → i < l.row → number g.C.Number.value l.potentials i ≡ raised (flag l.visited (slice_index l.column_of i)) (number g.C.Number.value l.fn.potentials i) (neg_ℤ (g.C.Number.value l.depth -ℤ number g.C.Number.value l.distances (slice_index l.column_of i)));
  rest : (i : ℕ) → l.row ≤ i → number g.C.Number.value l.potentials i ≡ number g.C.Number.value l.fn.potentials i;
}
