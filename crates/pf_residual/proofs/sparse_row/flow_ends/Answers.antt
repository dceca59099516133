use Rattle.std.proofs.Common.{◌∙◌, sym, ap, subst, ◌+◌, pos, arith}
use Rattle.std.specs.Prelude.{◌<ℤ◌, ◌≤ℤ◌}
use Rattle.pf_residual.specs.Listings.{ListsVertices}
use Rattle.pf_residual.specs.SparseRows.{amount_to}
use Rattle.pf_residual.specs.Internal.RowChanges.{end_after}
use Rattle.pf_residual.proofs.SparseListings.{vertices_listed, vertices_skipped, vertices_done}
use Rattle.pf_residual.proofs.StoreListings.{vertices_none}
use Rattle.pf_base.proofs.Outcomes.{refused_by}
use Rattle.std.proofs.lemmas.Result.{IfOk-from_err}
use Rattle.pf_residual.proofs.sparse_row.flow_ends.Goals.{then-is_below+in_ok-push, else-is_below}
use Rattle.pf_residual.proofs.sparse_row.flow_ends.Goals as goal

pub loop-edge-preserved : goal.loop-edge-preserved
loop-edge-preserved g c =
    let value = g.C.Number.value in
    let zero = ap value c.zero.ensures ∙ g.met.C.Zero.zero_law g.met.C.Integral.exact_law in
    let row = c.args.row.now in
    let i = c.loop-edge.edge-index in
    elim c.if-is_below.branch as (λ _. ListsVertices (end_after 0 row (i + 1)) (λ to. pos 0 <ℤ amount_to (λ e. value e.flow) row to) c.if-is_below.list.items) [
      | then-is_below+in_ok-push w ↦
          subst (λ z. ListsVertices (end_after 0 row (i + 1)) (λ to. pos 0 <ℤ amount_to (λ e. value e.flow) row to) z) (sym (ap (λ v. v.items) w.list-is ∙ w.in_ok-push.ensures.items))
          (vertices_listed row c.requires i c.edge-item.result c.loop-edge-test.true c.edge-item.is (λ e. value e.flow) c.loop-edge.list.items c.loop-edge.invariant
          (subst (λ z. z <ℤ value c.edge-item.result.flow) zero w.if-is_below.ensures))
      | else-is_below w ↦
          subst (λ z. ListsVertices (end_after 0 row (i + 1)) (λ to. pos 0 <ℤ amount_to (λ e. value e.flow) row to) z) (sym (ap (λ v. v.items) w.list-is))
          (vertices_skipped row c.requires i c.edge-item.result c.loop-edge-test.true c.edge-item.is (λ e. value e.flow) c.loop-edge.list.items c.loop-edge.invariant
          (subst (λ z. value c.edge-item.result.flow ≤ℤ z) zero w.if-is_below.ensures))
    ]

pub returns-clause-listed : goal.returns-clause-listed
returns-clause-listed g c n below = vertices_done c.args.row.now c.requires c.loop-edge.edge-index c.loop-edge-test.false n below (λ e. g.C.Number.value e.flow) c.loop-edge.list.items c.loop-edge.invariant

pub returns-in_err-push-clause-listed : goal.returns-in_err-push-clause-listed
returns-in_err-push-clause-listed g c = IfOk-from_err _ _ c.from_residual.ensures.0

pub returns-in_err-push-clause-refused : goal.returns-in_err-push-clause-refused
returns-in_err-push-clause-refused g c = refused_by _ c.from_residual.result c.from_residual.ensures.1

pub loop-edge-init : goal.loop-edge-init
loop-edge-init g c = subst (λ z. ListsVertices 0 (λ to. pos 0 <ℤ amount_to (λ e. g.C.Number.value e.flow) c.args.row.now to) z) (sym c.new-list.ensures.items) (vertices_none (λ to. pos 0 <ℤ amount_to (λ e. g.C.Number.value e.flow) c.args.row.now to))

pub offset_bounds-row-edge-index : goal.offset_bounds-row-edge-index
offset_bounds-row-edge-index g c = c.loop-edge.auto.edge-index-end

pub bounds-row-edge-index : goal.bounds-row-edge-index
bounds-row-edge-index g c = c.loop-edge-test.true

pub loop-edge-smaller : goal.loop-edge-smaller
loop-edge-smaller g c = omega (arith, c.loop-edge-test.true)
