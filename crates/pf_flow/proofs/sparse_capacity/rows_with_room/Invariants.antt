use Rattle.std.proofs.Common.{◌≡◌, length}
use Rattle.pf_residual.specs.Internal.SparseTables.{AreEmpty}
use Rattle.pf_flow.proofs.sparse_capacity.rows_with_room.Given as goal

abbrev pub invariant-rows : goal.invariant-rows
invariant-rows g l = (length l.rows.items ≡ l.count-index) × AreEmpty l.rows.items
