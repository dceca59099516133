use Rattle.std.proofs.Common.{◌≡◌, ◌+◌, ap, sym, ◌∙◌, arith, length, [], take, drop, inl, inr, ◌⊎◌, Some, Err, refl, subst, take_all}
use Rattle.std.specs.Prelude.{◌≢◌}
use Rattle.std.proofs.lemmas.Bool.{cases_eq}
use Rattle.std.proofs.lemmas.Result.{IfOk-from_err}
use Rattle.std.proofs.lemmas.List.{nil_from_length}
use Rattle.pf_base.proofs.Outcomes.{refused_as}
use Rattle.pf_matrix.specs.declared.error.MatrixFormatError.TheVariants.{OutOfMemory}
use Rattle.pf_matrix.specs.Rows.{joined, first_length, first_refusal}
use Rattle.pf_matrix.proofs.RowLemmas.{AllZip-append, joined_more, refusal_fits, refusal_next, refusal_of}
use Rattle.std.specs.List.{AllZip}
use Rattle.std.proofs.lemmas.List.{drop_all}
use Rattle.pf_matrix.proofs.macros.from_slices.Goals as goal

pub loop-row-preserved : goal.loop-row-preserved
loop-row-preserved g c =
    let rows = c.args.rows.now in
    let i = c.loop-row.row-index in
    let row = c.row-item.result in
    let inv = c.loop-row.invariant in
    let put = c.in_ok-extend.ensures.extended in
    let full : row.now ≢ [] = λ e. (let h = c.in_ok-extend.ensures.empty_row.1 e in cc) in
    let some : length row.now ≢ 0 = λ e. full (nil_from_length row.now e) in
    let same : length row.now ≡ first_length rows = elim (cases_eq (length row.now) (first_length rows)) [
      | inl e ↦ e
      | inr n ↦ (let h = c.in_ok-extend.ensures.wrong_length.1 (full, λ e. n (e ∙ inv.columns)) in cc)
    ] in
    record {
      matrix = put.matrix;
      rows = put.rows ∙ ap (λ n. n + 1) inv.rows;
      columns = put.columns ∙ inv.columns;
      values = rw (put.values.1, joined_more rows i row (omega arith) c.row-item.is)
          (AllZip-append g.C.Clone.is_clone (joined (take i rows)) row.now c.loop-row.matrix.values put.values.0 inv.values put.values.2);
      rest = sym (refusal_fits (first_length rows) row (drop (i + 1) rows) some same) ∙ sym (refusal_next rows i (first_length rows) row (omega arith) c.row-item.is) ∙ inv.rest;
    }

pub returns-clause-refused : goal.returns-clause-refused
returns-clause-refused g c = tt

pub returns-in_err-extend-clause-refused : goal.returns-in_err-extend-clause-refused
returns-in_err-extend-clause-refused g c =
    let rows = c.args.rows.now in
    let inv = c.loop-row.invariant in
    let refusal = c.in_err-extend.ensures in
    let error = c.in_err-extend.field-0.0 in
    refused_as (λ e. (e ≡ OutOfMemory) ⊎ (first_refusal (first_length rows) rows ≡ Some e)) c.from_residual.result error c.from_residual.ensures.1
    (refusal_of rows c.loop-row.row-index c.loop-row.matrix.columns c.row-item.result error (omega arith) c.row-item.is inv.rest inv.columns (λ e. refusal.empty_row.0 (ap Err e)) (λ e. refusal.wrong_length.0 (ap Err e)) refusal.refused)

pub returns-in_err-extend-clause-rows : goal.returns-in_err-extend-clause-rows
returns-in_err-extend-clause-rows g c = IfOk-from_err _ _ c.from_residual.ensures.0

pub returns-in_err-extend-clause-columns : goal.returns-in_err-extend-clause-columns
returns-in_err-extend-clause-columns g c = IfOk-from_err _ _ c.from_residual.ensures.0

pub returns-in_err-extend-clause-values : goal.returns-in_err-extend-clause-values
returns-in_err-extend-clause-values g c = IfOk-from_err _ _ c.from_residual.ensures.0

pub returns-in_err-extend-clause-matrix : goal.returns-in_err-extend-clause-matrix
returns-in_err-extend-clause-matrix g c = IfOk-from_err _ _ c.from_residual.ensures.0

pub bounds-rows-row-index : goal.bounds-rows-row-index
bounds-rows-row-index g c = c.loop-row-test.true

pub slice_bounds-extend-end : goal.slice_bounds-extend-end
slice_bounds-extend-end g c = refl

pub returns-in_err-extend-clause-all_fit : goal.returns-in_err-extend-clause-all_fit
returns-in_err-extend-clause-all_fit g c = IfOk-from_err _ _ c.from_residual.ensures.0

pub loop-row-smaller : goal.loop-row-smaller
loop-row-smaller g c = omega (arith, c.loop-row-test.true)

pub returns-clause-rows : goal.returns-clause-rows
returns-clause-rows g c = c.loop-row.invariant.rows ∙ omega (arith, c.loop-row-test.false, c.loop-row.auto.row-index-end)

pub returns-clause-columns : goal.returns-clause-columns
returns-clause-columns g c = c.loop-row.invariant.columns

pub returns-clause-matrix : goal.returns-clause-matrix
returns-clause-matrix g c = c.loop-row.invariant.matrix

pub returns-clause-values : goal.returns-clause-values
returns-clause-values g c = subst (λ xs. AllZip g.C.Clone.is_clone (joined xs) c.loop-row.matrix.values) (take_all c.loop-row.row-index c.args.rows.now (omega (arith, c.loop-row-test.false))) c.loop-row.invariant.values

pub returns-clause-all_fit : goal.returns-clause-all_fit
returns-clause-all_fit g c = sym c.loop-row.invariant.rest ∙ ap (first_refusal (first_length c.args.rows.now)) (drop_all c.loop-row.row-index c.args.rows.now (omega (arith, c.loop-row-test.false)))
