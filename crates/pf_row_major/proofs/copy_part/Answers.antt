use Rattle.std.proofs.Common.{◌≡◌, ◌+◌, ◌-◌, ◌*◌, ap, sym, ◌∙◌, arith, length, get_or, take, drop, inl, inr}
use Rattle.std.proofs.lemmas.Bool.{cases_lt, cases_eq}
use Rattle.pf_row_major.proofs.SliceLemmas.{row_before, get_or-part, length-part}
use Rattle.pf_row_major.proofs.copy_part.Goals as goal

pub write_at-requires : goal.write_at-requires
write_at-requires g c =
    let whole = row_before (c.args.to.0 + c.loop-row.row) (c.args.to.0 + c.args.size.0) c.args.columns (omega arith) in
    let part = row_before c.loop-row.row c.args.size.0 c.args.part_columns (omega arith) in
    omega (arith, length-part (c.loop-row.row * c.args.part_columns) c.args.size.1 c.args.part.now (omega (arith, c.requires.part_rows)), c.requires.rows, c.loop-row.auto.values)

pub overflow_add-begin : goal.overflow_add-begin
overflow_add-begin g c = omega (arith, c.requires.fits)

pub overflow_mul-begin : goal.overflow_mul-begin
overflow_mul-begin g c = omega (arith, row_before (c.args.to.0 + c.loop-row.row) (c.args.to.0 + c.args.size.0) c.args.columns (omega arith), c.requires.rows)

pub overflow_add-begin-in-loop-row : goal.overflow_add-begin-in-loop-row
overflow_add-begin-in-loop-row g c = omega (arith, row_before (c.args.to.0 + c.loop-row.row) (c.args.to.0 + c.args.size.0) c.args.columns (omega arith), c.requires.rows, c.requires.columns)

pub overflow_mul-from : goal.overflow_mul-from
overflow_mul-from g c = omega (arith, row_before c.loop-row.row c.args.size.0 c.args.part_columns (omega arith), c.requires.part_rows)

pub overflow_add-from : goal.overflow_add-from
overflow_add-from g c = omega (arith, row_before c.loop-row.row c.args.size.0 c.args.part_columns (omega arith), c.requires.part_rows, c.requires.part_columns)

pub slice_bounds-write_at-end : goal.slice_bounds-write_at-end
slice_bounds-write_at-end g c = omega (arith, row_before c.loop-row.row c.args.size.0 c.args.part_columns (omega arith), c.requires.part_rows, c.requires.part_columns)

pub loop-row-preserved : goal.loop-row-preserved
loop-row-preserved g c =
    let row = c.loop-row.row in
    let to = c.args.to in
    let w = c.args.columns in
    let from = row * c.args.part_columns in
    let begin = (to.0 + row) * w + to.1 in
    let width = c.args.size.1 in
    let room = row_before row c.args.size.0 c.args.part_columns (omega arith) in
    let size : length (take (from + width - from) (drop from c.args.part.now)) ≡ width = length-part from width c.args.part.now (omega (arith, c.requires.part_rows)) in
    record {
      copied = λ r k d h b. elim (cases_lt r row) [
        | inl o ↦
            let before = row_before (to.0 + r) (to.0 + row) w (omega arith) in
            c.write_at.ensures.below ((to.0 + r) * w + (to.1 + k)) d (omega (arith, c.requires.columns)) ∙ c.loop-row.invariant.copied r k d o b
        | inr o ↦
            let same : r ≡ row = omega arith in
            let at : (to.0 + r) * w + (to.1 + k) ≡ begin + k = omega (arith, ap (λ s. (to.0 + s) * w) same) in
            ap (λ i. get_or c.write_at.new.values i d) at ∙ c.write_at.ensures.inside k d (omega arith)
            ∙ get_or-part from width c.args.part.now k d b ∙ ap (λ s. get_or c.args.part.now (s * c.args.part_columns + k) d) (sym same)
      ];
      others = λ r k d h n. elim (cases_lt r (to.0 + row)) [
        | inl o ↦
            let before = row_before r (to.0 + row) w o in
            c.write_at.ensures.below (r * w + k) d (omega arith)
            ∙ c.loop-row.invariant.others r k d h (λ v. n (record { below = v.below; above = omega (arith, v.above); right = v.right; left = v.left }))
        | inr o ↦
            let old = c.loop-row.invariant.others r k d h (λ v. absurd (omega (arith, v.above))) in
            elim (cases_eq r (to.0 + row)) [
              | inl e ↦
                  let at : r * w ≡ (to.0 + row) * w = ap (λ s. s * w) e in
                  elim (cases_lt k to.1) [
                    | inl p ↦ c.write_at.ensures.below (r * w + k) d (omega arith) ∙ old
                    | inr p ↦ elim (cases_lt k (to.1 + width)) [
                      | inl q ↦ absurd (n (record { below = omega arith; above = omega arith; right = p; left = q }))
                      | inr q ↦ c.write_at.ensures.above (r * w + k) d (omega arith) ∙ old
                    ]
                  ]
              | inr e ↦
                  let after = row_before (to.0 + row) r w (omega arith) in
                  c.write_at.ensures.above (r * w + k) d (omega (arith, c.requires.columns)) ∙ old
            ]
      ];
    }

pub returns : goal.returns
returns g c = record {
  copied = λ r k d h b. c.loop-row.invariant.copied r k d (omega arith) b;
  others = λ r k d b n.
      let end : c.args.size.0 ≡ c.loop-row.row = omega arith in
      c.loop-row.invariant.others r k d b (rw end at n);
}

pub slice_bounds-write_at-count : goal.slice_bounds-write_at-count
slice_bounds-write_at-count g c = omega (arith, row_before c.loop-row.row c.args.size.0 c.args.part_columns (omega arith), c.requires.part_rows, c.requires.part_columns)

pub slice_bounds-write_at-start : goal.slice_bounds-write_at-start
slice_bounds-write_at-start g c = omega arith

pub offset_bounds-part-from : goal.offset_bounds-part-from
offset_bounds-part-from g c = omega (arith, row_before c.loop-row.row c.args.size.0 c.args.part_columns (omega arith), c.requires.part_rows, c.requires.part_columns)
