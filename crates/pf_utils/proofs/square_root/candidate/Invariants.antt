use Rattle.std.proofs.Common.{◌≡◌, ℕ, ◌*◌, ◌/◌, ◌<◌, ◌≤◌}
use Rattle.std.specs.Prelude.{unsigned_abs}
use Rattle.pf_utils.proofs.square_root.candidate.Given as goal

-- the candidate is a number from 1 up, not below a root, beside the quotient by it
abbrev pub invariant-steps : goal.invariant-steps
invariant-steps g l =
    record {
      fits : g.T.Number.fits (g.T.Number.value l.root);
      quotient_fits : g.T.Number.fits (g.T.Number.value l.quotient);
      positive : 0 < unsigned_abs (g.T.Number.value l.root);
      divides : unsigned_abs (g.T.Number.value l.quotient) ≡ unsigned_abs (g.T.Number.value l.n) / unsigned_abs (g.T.Number.value l.root);
      above : (root : ℕ) → root * root ≡ unsigned_abs (g.T.Number.value l.n) → root ≤ unsigned_abs (g.T.Number.value l.root);
    }

abbrev pub decreases-steps : goal.decreases-steps
decreases-steps g l = unsigned_abs (g.T.Number.value l.root)
