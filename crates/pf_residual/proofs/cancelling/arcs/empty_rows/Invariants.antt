use Rattle.std.proofs.Common.{◌≡◌, ℕ, Some, Vec, length, slice_get}
use Rattle.pf_residual.specs.Internal.Cancelling.{Has}
use Rattle.pf_residual.proofs.cancelling.arcs.empty_rows.Given as goal

abbrev pub invariant-rows : goal.invariant-rows
invariant-rows g l = record {
  len : length l.rows.items ≡ l._row;
  empty : (b k : ℕ) (row : Vec ℕ g.row.A.Denot) → slice_get l.rows.items b ≡ Some row → ¬ (Has row.items k);
}
