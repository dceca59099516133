use Rattle.std.proofs.Common.{◌+◌, ◌∙◌, ◌∷◌, ◌++◌, [], ℕ, length, ap, sym, subst, refl, arith}
use Rattle.std.proofs.lemmas.List.{length_push}
use Rattle.std.proofs.lemmas.Result.{IfOk-from_err}
use Rattle.pf_base.proofs.Outcomes.{refused_as, refused_by}
use Rattle.pf_residual.specs.Internal.SparseTables.{AreEmpty}
use Rattle.pf_residual.proofs.SparseStoreLemmas.{empty_more}
use Rattle.pf_flow.proofs.sparse_capacity.rows_with_room.Goals as goal

pub rows-init : goal.rows-init
rows-init g c = (ap length c.in_ok-rows.ensures.items, subst AreEmpty (sym c.in_ok-rows.ensures.items) (record { at = λ a. refl }))

pub rows-preserved : goal.rows-preserved
rows-preserved g c =
    let rows = c.rows.rows.items in (
      ap length c.in_ok-push.ensures.items ∙ length_push rows c.in_ok-with_room.field-0 ∙ ap (λ (n : ℕ). n + 1) c.rows.invariant.0,
      subst AreEmpty (sym (c.in_ok-push.ensures.items ∙ ap (λ r. rows ++ r ∷ []) c.in_ok-with_room.ensures.empty)) (empty_more rows c.rows.invariant.1),
    )

pub returns-clause-len : goal.returns-clause-len
returns-clause-len g c = omega (arith, c.rows.invariant.0, c.in_ok-counts.ensures.len, ap length c.deref-count-items.ensures.value)

pub returns-in_err-counts-clause-len : goal.returns-in_err-counts-clause-len
returns-in_err-counts-clause-len g c = IfOk-from_err _ _ c.from_residual.ensures.0

pub returns-in_err-counts-clause-empty : goal.returns-in_err-counts-clause-empty
returns-in_err-counts-clause-empty g c = IfOk-from_err _ _ c.from_residual.ensures.0

pub returns-in_err-counts-clause-refused : goal.returns-in_err-counts-clause-refused
returns-in_err-counts-clause-refused g c = refused_as _ c.from_residual.result _ c.from_residual.ensures.1 c.in_err-counts.ensures.refused

pub returns-in_err-rows-clause-len : goal.returns-in_err-rows-clause-len
returns-in_err-rows-clause-len g c = IfOk-from_err _ _ c.from_residual-in_err-rows.ensures.0

pub returns-in_err-rows-clause-empty : goal.returns-in_err-rows-clause-empty
returns-in_err-rows-clause-empty g c = IfOk-from_err _ _ c.from_residual-in_err-rows.ensures.0

pub returns-in_err-rows-clause-refused : goal.returns-in_err-rows-clause-refused
returns-in_err-rows-clause-refused g c = refused_by _ c.from_residual-in_err-rows.result c.from_residual-in_err-rows.ensures.1

pub returns-in_err-with_room-clause-len : goal.returns-in_err-with_room-clause-len
returns-in_err-with_room-clause-len g c = IfOk-from_err _ _ c.from_residual-in_err-with_room.ensures.0

pub returns-in_err-with_room-clause-empty : goal.returns-in_err-with_room-clause-empty
returns-in_err-with_room-clause-empty g c = IfOk-from_err _ _ c.from_residual-in_err-with_room.ensures.0

pub returns-in_err-with_room-clause-refused : goal.returns-in_err-with_room-clause-refused
returns-in_err-with_room-clause-refused g c = refused_as _ c.from_residual-in_err-with_room.result _ c.from_residual-in_err-with_room.ensures.1 c.in_err-with_room.ensures.refused

pub returns-in_err-push-clause-len : goal.returns-in_err-push-clause-len
returns-in_err-push-clause-len g c = IfOk-from_err _ _ c.from_residual-in_err-push.ensures.0

pub returns-in_err-push-clause-empty : goal.returns-in_err-push-clause-empty
returns-in_err-push-clause-empty g c = IfOk-from_err _ _ c.from_residual-in_err-push.ensures.0

pub returns-in_err-push-clause-refused : goal.returns-in_err-push-clause-refused
returns-in_err-push-clause-refused g c = refused_by _ c.from_residual-in_err-push.result c.from_residual-in_err-push.ensures.1

pub bounds-count-items-count-index : goal.bounds-count-items-count-index
bounds-count-items-count-index g c = c.rows-test.true

pub offset_bounds-count-items-count-index : goal.offset_bounds-count-items-count-index
offset_bounds-count-items-count-index g c = omega (arith, c.rows-test.true, c.deref-count-items.ensures.len, c.deref-count-items.type_inv.1)

pub rows-smaller : goal.rows-smaller
rows-smaller g c = omega (arith, c.rows-test.true)

pub returns-clause-empty : goal.returns-clause-empty
returns-clause-empty g c = c.rows.invariant.1
