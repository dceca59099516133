use Rattle.std.proofs.Common.{◌≡◌, ◌+◌, ◌*◌, max, refl, arith}
use Rattle.pf_row_major.proofs.SliceLemmas.{row_before}
use Rattle.pf_row_major.proofs.SquareLemmas.{exchange_more, exchange_row, exchanged_all, others_all}
use Rattle.pf_row_major.proofs.exchange_band.Goals as goal

pub loop-column-preserved : goal.loop-column-preserved
loop-column-preserved g c =
    let a = c.args in
    rw c.swap.ensures.after
    (exchange_more a.columns a.from a.to a.values.now c.loop-column.values c.loop-row.row c.loop-column.column (omega arith) (omega arith) c.loop-column-test.true c.requires.inside
    (omega (arith, c.loop-column.invariant.size, c.requires.size)) c.loop-column.invariant)

pub loop-row-preserved : goal.loop-row-preserved
loop-row-preserved g c =
    let a = c.args in
    let end : c.loop-column.column ≡ c.args.to = omega arith in
    exchange_row a.columns a.from a.to a.values.now c.loop-column.values c.loop-row.row c.loop-row-test.true c.requires.inside (rw end at c.loop-column.invariant)

pub returns : goal.returns
returns g c =
    let a = c.args in
    let end : c.loop-row.row ≡ c.args.to = omega arith in
    let at = c.loop-row.row * a.columns + max a.from (c.loop-row.row + 1) in
    record {
      exchanged = exchanged_all a.columns a.from a.to a.values.now c.loop-row.values at (rw end (omega arith)) c.requires.inside c.loop-row.invariant;
      others = others_all a.columns a.from a.to a.values.now c.loop-row.values at (rw end (omega arith)) c.requires.inside c.loop-row.invariant;
    }

pub loop-row-init : goal.loop-row-init
loop-row-init g c = record {
  size = refl;
  done = λ r k d h l i b. absurd (omega (arith, h, l, b));
  left = λ r k d h l i b. (refl, refl);
  others = λ r k d h l b. refl;
}

pub loop-column-init : goal.loop-column-init
loop-column-init g c = rw c.max-column.ensures c.loop-row.invariant

pub overflow_add-row : goal.overflow_add-row
overflow_add-row g c = omega (arith, c.loop-row-test.true)

pub overflow_mul-row : goal.overflow_mul-row
overflow_mul-row g c = omega (arith, c.requires.size, row_before c.loop-row.row c.args.to c.args.columns c.loop-row-test.true)

pub overflow_add-row-in-loop-column : goal.overflow_add-row-in-loop-column
overflow_add-row-in-loop-column g c = omega (arith, c.requires.size, c.requires.inside, c.loop-column-test.true, row_before c.loop-row.row c.args.to c.args.columns c.loop-row-test.true)

pub overflow_mul-column : goal.overflow_mul-column
overflow_mul-column g c = omega (arith, c.requires.size, row_before c.loop-column.column c.args.to c.args.columns c.loop-column-test.true)

pub overflow_add-column : goal.overflow_add-column
overflow_add-column g c = omega (arith, c.requires.size, c.requires.inside, c.loop-row-test.true, row_before c.loop-column.column c.args.to c.args.columns c.loop-column-test.true)

pub swap-requires-clause-a_in_bounds : goal.swap-requires-clause-a_in_bounds
swap-requires-clause-a_in_bounds g c = omega (arith, c.loop-column.invariant.size, c.requires.size, c.requires.inside, c.loop-column-test.true, row_before c.loop-row.row c.args.to c.args.columns c.loop-row-test.true)

pub swap-requires-clause-b_in_bounds : goal.swap-requires-clause-b_in_bounds
swap-requires-clause-b_in_bounds g c = omega (arith, c.loop-column.invariant.size, c.requires.size, c.requires.inside, c.loop-row-test.true, row_before c.loop-column.column c.args.to c.args.columns c.loop-column-test.true)

pub loop-column-smaller : goal.loop-column-smaller
loop-column-smaller g c = omega (arith, c.loop-column-test.true)

pub loop-row-smaller : goal.loop-row-smaller
loop-row-smaller g c = omega (arith, c.loop-row-test.true)
