use Rattle.std.proofs.Common.{map, pos}
use Rattle.std.specs.Prelude.{◌<ℤ◌}
use Rattle.pf_residual.specs.SparseRows.{amount_to}
use Rattle.pf_residual.specs.Internal.RowChanges.{end_after}
use Rattle.pf_residual.specs.Listings.{ListsVertices}
use Rattle.pf_residual.proofs.sparse_row.list_residual_ends.Given as goal

abbrev pub invariant-loop-place : goal.invariant-loop-place
invariant-loop-place g l = ListsVertices (end_after 0 l.row l.place) (λ to. pos 0 <ℤ amount_to (λ e. g.C.Number.value e.residual) l.row to) (map (λ end. end.0) l.list.items)
