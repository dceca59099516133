use Rattle.std.specs.Prelude.{◌<ℤ◌, map, pos}
use Rattle.pf_residual.specs.DenseStores.{table_number}
use Rattle.pf_residual.specs.Listings.{ListsVertices}
use Rattle.pf_flow.proofs.dense_capacity.list_above.Given as goal

abbrev pub invariant-loop-to : goal.invariant-loop-to
invariant-loop-to g l = ListsVertices l.to (λ to. pos 0 <ℤ table_number g.C.Number.value l.table.rows l.table l.from to) (map (λ end. end.0) l.list.items)
