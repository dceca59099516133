use Rattle.std.proofs.Common.{◌∙◌, ◌∷◌, [], sym, ap, subst, map, ◌+◌, ℕ, List, pos, arith}
use Rattle.std.specs.Prelude.{◌<ℤ◌, ◌≤ℤ◌}
use Rattle.std.proofs.lemmas.List.{map-append}
use Rattle.std.proofs.lemmas.Result.{IfOk-from_err}
use Rattle.pf_base.proofs.Outcomes.{refused_by}
use Rattle.pf_residual.specs.Listings.{ListsVertices}
use Rattle.pf_residual.specs.SparseRows.{amount_to}
use Rattle.pf_residual.specs.Internal.RowChanges.{end_after}
use Rattle.pf_residual.proofs.SparseListings.{vertices_listed, vertices_skipped, vertices_done}
use Rattle.pf_residual.proofs.StoreListings.{vertices_none}
use Rattle.pf_residual.proofs.sparse_row.list_residual_ends.Goals.{then-is_below+in_ok-push, else-is_below}
use Rattle.pf_residual.proofs.sparse_row.list_residual_ends.Goals as goal

pub loop-place-init : goal.loop-place-init
loop-place-init g c =
    let left = λ (to : ℕ). pos 0 <ℤ amount_to (λ e. g.C.Number.value e.residual) c.args.row.now to in
    subst (λ (ends : List (ℕ × ℕ)). ListsVertices 0 left (map (λ end. end.0) ends)) (sym c.clear.ensures.items) (vertices_none left)

pub loop-place-preserved : goal.loop-place-preserved
loop-place-preserved g c =
    let value = g.C.Number.value in
    let zero = ap value c.zero.ensures ∙ g.met.C.Zero.zero_law g.met.C.Integral.exact_law in
    let row = c.args.row.now in
    let i = c.loop-place.place in
    let list = c.loop-place.list.items in
    let edge = c.index-row-place.result in
    let Listed = λ (ends : List ℕ). ListsVertices (end_after 0 row (i + 1)) (λ to. pos 0 <ℤ amount_to (λ e. value e.residual) row to) ends in
    elim c.if-is_below.branch as (λ _. ListsVertices (end_after 0 row (i + 1)) (λ to. pos 0 <ℤ amount_to (λ e. value e.residual) row to) (map (λ end. end.0) c.if-is_below.list.items)) [
      | then-is_below+in_ok-push w ↦
          subst Listed (sym (ap (λ v. map (λ (end : ℕ × ℕ). end.0) v.items) w.list-is ∙ ap (map (λ (end : ℕ × ℕ). end.0)) w.in_ok-push.ensures.items ∙ map-append (λ (end : ℕ × ℕ). end.0) list ((edge.to, i) ∷ [])))
          (vertices_listed row c.requires i edge c.loop-place-test.true c.index-row-place.is (λ e. value e.residual) (map (λ end. end.0) list) c.loop-place.invariant
          (subst (λ z. z <ℤ value edge.residual) zero w.if-is_below.ensures))
      | else-is_below w ↦
          subst Listed (sym (ap (λ v. map (λ (end : ℕ × ℕ). end.0) v.items) w.list-is))
          (vertices_skipped row c.requires i edge c.loop-place-test.true c.index-row-place.is (λ e. value e.residual) (map (λ end. end.0) list) c.loop-place.invariant
          (subst (λ z. value edge.residual ≤ℤ z) zero w.if-is_below.ensures))
    ]

pub returns-clause-listed : goal.returns-clause-listed
returns-clause-listed g c n below = vertices_done c.args.row.now c.requires c.loop-place.place c.loop-place-test.false n below (λ e. g.C.Number.value e.residual) (map (λ end. end.0) c.loop-place.list.items) c.loop-place.invariant

pub returns-in_err-push-clause-listed : goal.returns-in_err-push-clause-listed
returns-in_err-push-clause-listed g c = IfOk-from_err _ _ c.from_residual.ensures.0

pub returns-in_err-push-clause-refused : goal.returns-in_err-push-clause-refused
returns-in_err-push-clause-refused g c = refused_by _ c.from_residual.result c.from_residual.ensures.1
