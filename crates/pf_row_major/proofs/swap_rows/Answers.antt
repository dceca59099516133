use Rattle.std.proofs.Common.{◌*◌, sym, ◌∙◌, arith, ◌^◌, ◌<◌, ◌≤◌, ℕ, Fits, w64, rules, length}
use Rattle.std.proofs.lemmas.List.{length-take-le}
use Rattle.pf_row_major.proofs.SliceLemmas.{first_size, length-part, row_before, second_size, swapped_first, swapped_second, swapped_others}
use Rattle.pf_row_major.proofs.swap_rows.Goals as goal

-- the offset of a place fits where the whole does
offset_fits : (i n k : ℕ) → i ≤ n → n * k < 2 ^ 63 → Fits w64 (i * k)
offset_fits i n k l m = search rules

pub overflow_mul-other : goal.overflow_mul-other
overflow_mul-other g c = omega (arith, c.requires.inside)

pub split_at_mut-above-requires : goal.split_at_mut-above-requires
split_at_mut-above-requires g c = omega (arith, c.requires.inside)

pub overflow_mul-row : goal.overflow_mul-row
overflow_mul-row g c = omega (arith, c.requires.inside, row_before c.args.row c.args.other c.args.columns c.requires.order)

pub overflow_mul-row-2 : goal.overflow_mul-row-2
overflow_mul-row-2 g c = omega (arith, c.requires.inside, row_before c.args.row c.args.other c.args.columns c.requires.order)

pub overflow_add-row : goal.overflow_add-row
overflow_add-row g c = omega (arith, c.requires.inside, row_before c.args.row c.args.other c.args.columns c.requires.order)

pub slice_bounds-swap_with_slice-end : goal.slice_bounds-swap_with_slice-end
slice_bounds-swap_with_slice-end g c = omega (arith, c.split_at_mut-above.ensures.front_len, row_before c.args.row c.args.other c.args.columns c.requires.order)

pub slice_bounds-swap_with_slice-end-2 : goal.slice_bounds-swap_with_slice-end-2
slice_bounds-swap_with_slice-end-2 g c = omega (arith, c.split_at_mut-above.ensures.back_len, c.requires.inside)

pub slice_bounds-swap_with_slice-end-3 : goal.slice_bounds-swap_with_slice-end-3
slice_bounds-swap_with_slice-end-3 g c = sym (length-take-le c.args.columns c.split_at_mut-above.result.1.now (omega (arith, c.split_at_mut-above.ensures.back_len, c.requires.inside)))

pub swap_with_slice-requires : goal.swap_with_slice-requires
swap_with_slice-requires g c =
    let w = c.args.columns in
    let split = c.split_at_mut-above in
    length-part (c.args.row * w) w split.result.0.now (omega (arith, split.ensures.front_len, row_before c.args.row c.args.other w c.requires.order))
    ∙ sym (length-take-le w split.result.1.now (omega (arith, split.ensures.back_len, c.requires.inside)))

pub returns : goal.returns
returns g c = record {
  row =
      let split = c.split_at_mut-above in
      let swap = c.swap_with_slice in
      swapped_first c.args.row c.args.other c.args.columns c.args.values.now split.result.0.now split.result.1.now swap.new.self swap.new.other c.requires.order c.requires.inside split.ensures.front split.ensures.back swap.ensures.after swap.ensures.other_after;
  other =
      let split = c.split_at_mut-above in
      let swap = c.swap_with_slice in
      swapped_second c.args.row c.args.other c.args.columns c.args.values.now split.result.0.now split.result.1.now swap.new.self swap.new.other c.requires.order c.requires.inside split.ensures.front split.ensures.back swap.ensures.after swap.ensures.other_after;
  others =
      let row = c.args.row in
      let other = c.args.other in
      let w = c.args.columns in
      let split = c.split_at_mut-above in
      let swap = c.swap_with_slice in
      let first = first_size row other w c.args.values.now split.result.0.now split.result.1.now swap.new.self swap.new.other c.requires.order c.requires.inside split.ensures.front split.ensures.back swap.ensures.after swap.ensures.other_after in
      let second = second_size row other w c.args.values.now split.result.0.now split.result.1.now swap.new.self swap.new.other c.requires.order c.requires.inside split.ensures.front split.ensures.back swap.ensures.after swap.ensures.other_after in
      swapped_others row other w c.args.values.now split.result.0.now split.result.1.now swap.new.self swap.new.other c.requires.order c.requires.inside split.ensures.front split.ensures.back first second;
}

pub slice_bounds-swap_with_slice-count : goal.slice_bounds-swap_with_slice-count
slice_bounds-swap_with_slice-count g c = omega arith

pub slice_bounds-swap_with_slice-start : goal.slice_bounds-swap_with_slice-start
slice_bounds-swap_with_slice-start g c = omega (arith, c.split_at_mut-above.ensures.front_len, row_before c.args.row c.args.other c.args.columns c.requires.order)

pub offset_bounds-above-row : goal.offset_bounds-above-row
offset_bounds-above-row g c = offset_fits (c.args.row * c.args.columns) (length c.args.values.now) _ (omega (arith, c.requires.inside, row_before c.args.row c.args.other c.args.columns c.requires.order)) c.well_formed.0.1
