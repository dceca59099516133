use Rattle.pf_residual.specs.DenseStores.{table_number}
use Rattle.pf_residual.specs.Listings.{ListsNumbers}
use Rattle.pf_flow.proofs.dense_capacity.numbers_above.Given as goal

abbrev pub invariant-loop-to : goal.invariant-loop-to
invariant-loop-to g l = ListsNumbers g.C.Number.value l.to (table_number g.C.Number.value l.table.rows l.table l.from) l.list.items
