use Rattle.std.proofs.Common.{pos}
use Rattle.std.specs.Prelude.{◌<ℤ◌}
use Rattle.pf_residual.specs.SparseRows.{amount_to}
use Rattle.pf_residual.specs.Internal.RowChanges.{end_after}
use Rattle.pf_residual.specs.Listings.{ListsVertices}
use Rattle.pf_residual.proofs.sparse_row.flow_ends.Given as goal

abbrev pub invariant-loop-edge : goal.invariant-loop-edge
invariant-loop-edge g l = ListsVertices (end_after 0 l.row l.edge-index) (λ to. pos 0 <ℤ amount_to (λ e. g.C.Number.value e.flow) l.row to) l.list.items
