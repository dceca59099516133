use Rattle.std.proofs.Common.{arith, ◌≡◌, ◌∙◌, sym, subst, map, pos, length, []}
use Rattle.std.specs.Prelude.{◌<ℤ◌}
use Rattle.std.proofs.lemmas.List.{get_or_default}
use Rattle.pf_base.proofs.Outcomes.{on_ok}
use Rattle.pf_residual.specs.Listings.{ListsVertices}
use Rattle.pf_residual.specs.SparseRows.{amount_to, ends, row_at}
use Rattle.pf_residual.specs.Internal.RowChanges.{AreBelow, Rises}
use Rattle.pf_flow.proofs.sparse_capacity.SparseCapacityFlowStore.list_residual.Goals as goal

pub returns-clause-listed : goal.returns-clause-listed
returns-clause-listed g c =
    let rows = c.args.self.now.rows.items in
    let n = length rows in
    let here : c.edges.result.now ≡ row_at rows c.args.from = c.edges.ensures ∙ c.index.ensures ∙ get_or_default rows c.args.from _ [] c.requires in
    on_ok c.list_residual_ends.result c.list_residual_ends.ensures.listed (λ h. subst (λ row. ListsVertices n (λ to. pos 0 <ℤ amount_to (λ e. g.C.Number.value e.residual) row to) (map (λ end. end.0) c.list_residual_ends.new.list.items)) here (h n (subst (λ row. AreBelow n row) (sym here) (c.args.self.now.stored.below c.args.from))))

pub index-requires : goal.index-requires
index-requires g c = omega (arith, c.requires, c.args.self.now.rows.ok)

pub list_residual_ends-requires : goal.list_residual_ends-requires
list_residual_ends-requires g c =
    let here : c.edges.result.now ≡ row_at c.args.self.now.rows.items c.args.from = c.edges.ensures ∙ c.index.ensures ∙ get_or_default c.args.self.now.rows.items c.args.from _ [] c.requires in
    subst (λ row. Rises 0 (ends row)) (sym here) (c.args.self.now.stored.rises c.args.from)
