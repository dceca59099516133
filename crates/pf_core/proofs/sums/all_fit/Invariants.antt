use Rattle.std.proofs.Common.{ℕ, take}
use Rattle.std.specs.Prelude.{Contains, ◌+ℤ◌}
use Rattle.pf_core.proofs.sums.all_fit.Given as goal

abbrev pub invariant-steps : goal.invariant-steps
invariant-steps g l = (j : ℕ) (c : g.row.C.Denot) → Contains (take l.price-index l.row) (j, c) → g.C.Number.fits (g.C.Number.value l.cost +ℤ g.C.Number.value c)
