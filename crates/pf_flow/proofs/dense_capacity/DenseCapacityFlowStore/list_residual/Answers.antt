use Rattle.std.proofs.Common.{subst, map, pos}
use Rattle.std.specs.Prelude.{◌<ℤ◌}
use Rattle.pf_base.proofs.Outcomes.{on_ok}
use Rattle.pf_residual.specs.Listings.{ListsVertices}
use Rattle.pf_residual.specs.DenseStores.{table_number}
use Rattle.pf_flow.proofs.dense_capacity.DenseCapacityFlowStore.list_residual.Goals as goal

pub returns-clause-listed : goal.returns-clause-listed
returns-clause-listed g c =
    let s = c.args.self.now in
    on_ok c.list_above.result c.list_above.ensures.listed
    (subst (λ n. ListsVertices n (λ to. pos 0 <ℤ table_number g.C.Number.value n s.residuals c.args.from to) (map (λ end. end.0) c.list_above.new.list.items)) s.stored.residuals_square.rows)
