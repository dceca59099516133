use Rattle.std.proofs.Common.{◌≡◌, ℕ, ◌<◌}
use Rattle.std.specs.Prelude.{neg_ℤ}
use Rattle.pf_base.specs.Places.{number}
use Rattle.pf_assignment.proofs.kuhn_munkres.weights.write_negations.Given as goal

-- the numbers so far are written
abbrev pub invariant-loop-k : goal.invariant-loop-k
invariant-loop-k g l = (k : ℕ) → k < l.k → number g.C.Number.value l.target k ≡ neg_ℤ (number g.C.Number.value l.source k)
