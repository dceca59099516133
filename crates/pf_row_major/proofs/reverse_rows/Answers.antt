use Rattle.std.proofs.Common.{refl, ◌≡◌, ◌+◌, ◌-◌, ◌*◌, ◌<◌, ap, sym, ◌∙◌, arith, get_or, length, inl, inr, ◌^◌, ◌≤◌, ℕ, Fits, w64, rules}
use Rattle.std.proofs.lemmas.Bool.{cases_eq}
use Rattle.pf_row_major.proofs.SliceLemmas.{row_before, this_row, other_row, length-reversed_row, get_or-reversed_row}
use Rattle.pf_row_major.proofs.reverse_rows.Goals as goal

-- the offset of a place fits where the whole does
offset_fits : (i n k : ℕ) → i ≤ n → n * k < 2 ^ 63 → Fits w64 (i * k)
offset_fits i n k l m = search rules

pub loop-row-preserved : goal.loop-row-preserved
loop-row-preserved g c =
    let row = c.loop-row.row in
    let w = c.args.columns in
    let n = c.args.rows in
    let xs = c.loop-row.values in
    let ys = c.reverse.new.self in
    let inside : row < n = omega arith in
    let sized : length xs ≡ n * w = omega (arith, c.requires, c.loop-row.auto.values) in
    let size : length ys ≡ w = ap length c.reverse.ensures.after ∙ length-reversed_row row w n xs inside sized in
    record {
      done = λ r k d h b. elim (cases_eq r row) [
        | inl e ↦ this_row row w n xs ys inside sized size r k d e b
            ∙ ap (λ zs. get_or zs k d) c.reverse.ensures.after
            ∙ get_or-reversed_row row w n xs inside sized k d b
            ∙ ap (λ i. get_or xs (i * w + (w - 1 - k)) d) (sym e)
            ∙ c.loop-row.invariant.left r (w - 1 - k) d (omega arith) (omega arith) (omega arith)
        | inr e ↦ other_row row w n xs ys inside sized size r k d e b ∙ c.loop-row.invariant.done r k d (omega arith) b
      ];
      left = λ r k d h j b. other_row row w n xs ys inside sized size r k d (λ e. absurd (omega (arith, e))) b ∙ c.loop-row.invariant.left r k d (omega arith) j b;
    }

pub loop-row-init : goal.loop-row-init
loop-row-init g c = record { done = λ r k d h b. absurd (omega (arith, h)); left = λ r k d h j b. refl }

pub loop-row-smaller : goal.loop-row-smaller
loop-row-smaller g c = omega (arith, c.loop-row-test.true)

pub overflow_add-row : goal.overflow_add-row
overflow_add-row g c = omega (arith, c.loop-row-test.true)

pub overflow_mul-row : goal.overflow_mul-row
overflow_mul-row g c = omega (arith, c.requires, c.loop-row.auto.values, row_before c.loop-row.row c.args.rows c.args.columns c.loop-row-test.true)

pub overflow_mul-row-in-loop-row : goal.overflow_mul-row-in-loop-row
overflow_mul-row-in-loop-row g c = omega (arith, c.requires, c.loop-row.auto.values, row_before c.loop-row.row c.args.rows c.args.columns c.loop-row-test.true)

pub slice_bounds-reverse-count : goal.slice_bounds-reverse-count
slice_bounds-reverse-count g c = omega (arith, c.requires, c.loop-row.auto.values, row_before c.loop-row.row c.args.rows c.args.columns c.loop-row-test.true)

pub slice_bounds-reverse-start : goal.slice_bounds-reverse-start
slice_bounds-reverse-start g c = omega (arith, row_before c.loop-row.row c.args.rows c.args.columns c.loop-row-test.true)

pub slice_bounds-reverse-end : goal.slice_bounds-reverse-end
slice_bounds-reverse-end g c = omega (arith, c.requires, c.loop-row.auto.values, row_before c.loop-row.row c.args.rows c.args.columns c.loop-row-test.true)

pub returns : goal.returns
returns g c = record { values = λ r k d h b. c.loop-row.invariant.done r k d (omega (arith, h, c.loop-row-test.false)) b }

pub offset_bounds-values-row : goal.offset_bounds-values-row
offset_bounds-values-row g c = offset_fits (c.loop-row.row * c.args.columns) (length c.args.values.now) _ (omega (arith, c.requires, row_before c.loop-row.row c.args.rows c.args.columns c.loop-row-test.true)) c.well_formed.0.1
