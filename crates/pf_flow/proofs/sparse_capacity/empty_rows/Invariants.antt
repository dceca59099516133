use Rattle.std.proofs.Common.{◌≡◌, length}
use Rattle.pf_residual.specs.Internal.SparseTables.{AreEmpty}
use Rattle.pf_flow.proofs.sparse_capacity.empty_rows.Given as goal

abbrev pub invariant-loop : goal.invariant-loop
invariant-loop g l = (length l.rows.items ≡ l.counter) × AreEmpty l.rows.items
