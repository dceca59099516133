use Rattle.std.proofs.Common.{◌≡◌, ℕ, ◌+◌, ◌*◌, refl, ap, ◌∙◌, arith, get_or}
use Rattle.std.proofs.lemmas.Result.{IfOk-from_err}
use Rattle.std.proofs.lemmas.Nat.{mul-add-lt}
use Rattle.pf_row_major.proofs.FillLemmas.{fill_begin, fill_row}
use Rattle.pf_row_major.proofs.SliceLemmas.{row_before}
use Rattle.pf_row_major.proofs.cloned_part.Goals as goal

pub overflow_mul-size : goal.overflow_mul-size
overflow_mul-size g c = omega (arith, c.requires.fits)

pub loop-row-init : goal.loop-row-init
loop-row-init g c =
    let place = λ (r k : ℕ). (c.args.from.0 + r) * c.args.columns + (c.args.from.1 + k) in
    fill_begin g.C.Clone.is_clone c.args.size.1 place c.args.all.now c.in_ok-values.values.items c.in_ok-values.ensures.items

pub overflow_add-begin : goal.overflow_add-begin
overflow_add-begin g c = omega (arith, c.requires.rows_fit)

pub overflow_mul-begin : goal.overflow_mul-begin
overflow_mul-begin g c = omega (arith, c.requires.rows, row_before (c.args.from.0 + c.loop-row.row) (c.args.from.0 + c.args.size.0) c.args.columns (omega arith))

pub overflow_add-begin-in-loop-row : goal.overflow_add-begin-in-loop-row
overflow_add-begin-in-loop-row g c = omega (arith, c.requires.rows, c.requires.columns, row_before (c.args.from.0 + c.loop-row.row) (c.args.from.0 + c.args.size.0) c.args.columns (omega arith))

pub run-requires : goal.run-requires
run-requires g c = omega (arith, c.requires.rows, c.requires.columns, row_before (c.args.from.0 + c.loop-row.row) (c.args.from.0 + c.args.size.0) c.args.columns (omega arith))

pub loop-row-preserved : goal.loop-row-preserved
loop-row-preserved g c =
    let a = c.in_ok-extend_with_clones.ensures.items in
    let from = c.args.from in
    let w = c.args.columns in
    let row = c.loop-row.row in
    let place = λ (r k : ℕ). (from.0 + r) * w + (from.1 + k) in
    rw a.1 (fill_row g.C.Clone.is_clone c.args.size.1 place c.args.all.now c.loop-row.values.items row c.run.result.now a.0 c.run.ensures.len
    (λ k d h. c.run.ensures.values k d h ∙ ap (λ i. get_or c.args.all.now i d) (let e : (from.0 + row) * w + from.1 + k ≡ (from.0 + row) * w + (from.1 + k) = omega arith in e)) a.2 c.loop-row.invariant)

pub returns-clause-values : goal.returns-clause-values
returns-clause-values g c = λ r k d h b.
    let end : c.loop-row.row ≡ c.args.size.0 = omega arith in
    c.loop-row.invariant.values r k d d b (rw end (omega (arith, mul-add-lt r c.args.size.1 k c.args.size.0 h b)))

pub returns-clause-len : goal.returns-clause-len
returns-clause-len g c =
    let end : c.loop-row.row ≡ c.args.size.0 = omega arith in
    omega (arith, c.loop-row.values.ok.0, rw end at c.loop-row.invariant.size)

pub returns-in_err-values-clause-len : goal.returns-in_err-values-clause-len
returns-in_err-values-clause-len g c = IfOk-from_err _ _ c.from_residual.ensures.0

pub returns-in_err-values-clause-values : goal.returns-in_err-values-clause-values
returns-in_err-values-clause-values g c = IfOk-from_err _ _ c.from_residual.ensures.0

pub loop-row-smaller : goal.loop-row-smaller
loop-row-smaller g c = omega (arith, c.loop-row-test.true)

pub returns-clause-no_rows : goal.returns-clause-no_rows
returns-clause-no_rows g c = λ e. refl
