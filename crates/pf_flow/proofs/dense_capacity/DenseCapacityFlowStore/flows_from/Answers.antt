use Rattle.std.proofs.Common.{subst, pos}
use Rattle.std.specs.Prelude.{◌<ℤ◌}
use Rattle.std.proofs.lemmas.Result.{IfOk-weaker}
use Rattle.pf_residual.specs.Listings.{ListsVertices}
use Rattle.pf_residual.specs.DenseStores.{table_number}
use Rattle.pf_flow.proofs.dense_capacity.DenseCapacityFlowStore.flows_from.Goals as goal

pub returns-clause-listed : goal.returns-clause-listed
returns-clause-listed g c =
    let s = c.args.self.now in
    IfOk-weaker c.vertices_above.result _ _
    (λ ends h. subst (λ n. ListsVertices n (λ to. pos 0 <ℤ table_number g.C.Number.value n s.flows c.args.from to) ends.items) s.stored.flows_square.rows h)
    c.vertices_above.ensures.listed
