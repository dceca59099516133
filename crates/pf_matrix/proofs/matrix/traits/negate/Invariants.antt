use Rattle.std.proofs.Common.{◌≡◌, ℕ, ◌<◌, ◌≤◌, get_or}
use Rattle.std.specs.Prelude.{neg_ℤ}
use Rattle.pf_matrix.proofs.matrix.traits.negate.Given as goal

-- the values so far are negated, and the others are as they were
abbrev pub invariant-loop-value : goal.invariant-loop-value
invariant-loop-value g l = record {
  done : (k : ℕ) (d : g.row.C.Denot) → k < l.value-index → g.C.Number.value (get_or l.values k d) ≡ neg_ℤ (g.C.Number.value (get_or l.fn.values k d));
  left : (k : ℕ) (d : g.row.C.Denot) → l.value-index ≤ k → get_or l.values k d ≡ get_or l.fn.values k d;
}
