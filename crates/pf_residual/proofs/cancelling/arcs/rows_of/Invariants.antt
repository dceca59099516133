use Rattle.std.proofs.Common.{◌≡◌, take, length}
use Rattle.pf_residual.specs.Internal.Cancelling.{AreRows}
use Rattle.pf_residual.proofs.cancelling.arcs.rows_of.Given as goal

abbrev pub invariant-arcs : goal.invariant-arcs
invariant-arcs g l = record {
  len : length l.rows.items ≡ l.size;
  rows : AreRows (take l.number l.ends) l.rows.items;
}
