use Rattle.pf_residual.specs.SparseRows.{amount_to}
use Rattle.pf_residual.specs.Internal.RowChanges.{end_after}
use Rattle.pf_residual.specs.Listings.{ListsNumbers}
use Rattle.pf_residual.proofs.sparse_row.residual_ends.Given as goal

abbrev pub invariant-loop-edge : goal.invariant-loop-edge
invariant-loop-edge g l = ListsNumbers g.C.Number.value (end_after 0 l.row l.edge-index) (amount_to (λ e. g.C.Number.value e.residual) l.row) l.list.items
