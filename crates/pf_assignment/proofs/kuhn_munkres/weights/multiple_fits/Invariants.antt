use Rattle.std.proofs.Common.{◌≡◌, ℕ, ◌+◌, ◌*◌}
use Rattle.std.specs.Prelude.{pos}
use Rattle.pf_assignment.proofs.kuhn_munkres.weights.multiple_fits.Given as goal

-- the multiple so far, which fits
abbrev pub invariant-loop-row : goal.invariant-loop-row
invariant-loop-row g l = record {
  sum : (w : ℕ) → g.C.Number.value l.weight ≡ pos w → g.C.Number.value l.total ≡ pos ((2 * l._row + 4) * w);
  fits : g.C.Number.fits (g.C.Number.value l.total);
}
