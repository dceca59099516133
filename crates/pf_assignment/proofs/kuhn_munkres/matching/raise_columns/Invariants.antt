use Rattle.std.proofs.Common.{◌≡◌, ℕ, ◌<◌, ◌≤◌}
use Rattle.std.specs.Prelude.{◌-ℤ◌}
use Rattle.pf_base.specs.Places.{number}
use Rattle.pf_assignment.specs.Internal.AssignmentSteps.{flag, raised}
use Rattle.pf_assignment.proofs.kuhn_munkres.matching.raise_columns.Given as goal

-- the potentials so far are raised, and the others are as they were
abbrev pub invariant-loop-column : goal.invariant-loop-column
invariant-loop-column g l = record {
  done : (j : ℕ) → j < l.column → number g.C.Number.value l.potentials j ≡ raised (flag l.visited j) (number g.C.Number.value l.fn.potentials j) (g.C.Number.value l.depth -ℤ number g.C.Number.value l.distances j);
  rest : (j : ℕ) → l.column ≤ j → number g.C.Number.value l.potentials j ≡ number g.C.Number.value l.fn.potentials j;
}
