use Rattle.std.proofs.Common.{◌≡◌, ℕ, ◌+◌, ◌*◌, arith, subst}
use Rattle.std.proofs.lemmas.Nat.{mul-add-lt}
use Rattle.std.proofs.lemmas.List.{get_or_read}
use Rattle.std.proofs.lemmas.Result.{IfOk-from_err}
use Rattle.pf_row_major.proofs.FillLemmas.{fill_begin, fill_one}
use Rattle.pf_row_major.proofs.cloned_columns.Goals as goal

pub loop-column-init : goal.loop-column-init
loop-column-init g c = record {
  room = c.in_ok-values.ensures.capacity;
  filling = fill_begin g.C.Clone.is_clone c.args.rows (λ (r k : ℕ). k * c.args.columns + r) c.args.all.now c.in_ok-values.values.items c.in_ok-values.ensures.items;
}

pub loop-row-init : goal.loop-row-init
loop-row-init g c =
    let begin : c.loop-column.column * c.args.rows + 0 ≡ c.loop-column.column * c.args.rows = omega arith in
    record { room = c.loop-column.invariant.room; filling = rw begin c.loop-column.invariant.filling }

pub overflow_mul-row : goal.overflow_mul-row
overflow_mul-row g c = omega (arith, c.requires, mul-add-lt c.loop-row.row c.args.columns c.loop-column.column c.args.rows c.loop-row-test.true c.loop-column-test.true)

pub overflow_add-row : goal.overflow_add-row
overflow_add-row g c = omega (arith, c.requires, mul-add-lt c.loop-row.row c.args.columns c.loop-column.column c.args.rows c.loop-row-test.true c.loop-column-test.true)

pub bounds-all-row : goal.bounds-all-row
bounds-all-row g c = omega (arith, c.requires, mul-add-lt c.loop-row.row c.args.columns c.loop-column.column c.args.rows c.loop-row-test.true c.loop-column-test.true)

pub offset_bounds-all-row : goal.offset_bounds-all-row
offset_bounds-all-row g c = omega (arith, bounds-all-row g c)

pub loop-row-preserved : goal.loop-row-preserved
loop-row-preserved g c =
    let all = c.args.all.now in
    let row = c.loop-row.row in
    let column = c.loop-column.column in
    let columns = c.args.columns in
    let place = λ (r k : ℕ). k * columns + r in
    let x = c.index-all-row.result in
    let read = get_or_read all (row * columns + column) x (omega (arith, c.requires, mul-add-lt row columns column c.args.rows c.loop-row-test.true c.loop-column-test.true)) c.index-all-row.is in
    let at : column * c.args.rows + (row + 1) ≡ column * c.args.rows + row + 1 = omega arith in
    record {
      room = omega (arith, c.loop-row.invariant.room, c.push_reserved.ensures.capacity);
      filling = rw (c.push_reserved.ensures.items, at)
          (fill_one g.C.Clone.is_clone c.args.rows place all c.loop-row.values.items column row c.in_ok-clone.field-0 (omega arith)
          (λ d. subst (λ y. g.C.Clone.is_clone y c.in_ok-clone.field-0) (read d) c.in_ok-clone.ensures.cases) c.loop-row.invariant.filling);
    }

pub push_reserved-requires : goal.push_reserved-requires
push_reserved-requires g c =
    let below = mul-add-lt c.loop-column.column c.args.rows c.loop-row.row c.args.columns c.loop-column-test.true c.loop-row-test.true in
    omega (arith, below, c.requires, c.loop-row.values.ok.0, c.loop-row.invariant.filling.size, c.loop-row.invariant.room)

pub loop-column-preserved : goal.loop-column-preserved
loop-column-preserved g c =
    let end : c.loop-row.row ≡ c.args.rows = omega arith in
    let at : c.loop-column.column * c.args.rows + c.loop-row.row ≡ (c.loop-column.column + 1) * c.args.rows = omega (arith, end) in
    record { room = c.loop-row.invariant.room; filling = rw at at c.loop-row.invariant.filling }

pub returns : goal.returns
returns g c = record {
  len =
      let end : c.loop-column.column ≡ c.args.columns = omega arith in
      omega (arith, c.loop-column.values.ok.0, rw end at c.loop-column.invariant.filling.size);
  values = λ r k d p q.
      let end : c.loop-column.column ≡ c.args.columns = omega arith in
      c.loop-column.invariant.filling.values r k d d q (rw end (omega (arith, mul-add-lt r c.args.rows k c.args.columns p q)));
}

pub returns-in_err-values : goal.returns-in_err-values
returns-in_err-values g c = record { len = IfOk-from_err _ _ c.from_residual.ensures.0; values = IfOk-from_err _ _ c.from_residual.ensures.0 }

pub returns-in_err-clone : goal.returns-in_err-clone
returns-in_err-clone g c = record { len = IfOk-from_err _ _ c.from_residual-in_err-clone.ensures.0; values = IfOk-from_err _ _ c.from_residual-in_err-clone.ensures.0 }
