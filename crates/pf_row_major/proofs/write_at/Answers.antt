use Rattle.std.proofs.Common.{◌+◌, ◌-◌, ◌∙◌, ap, arith, get_or, length}
use Rattle.pf_row_major.proofs.SliceLemmas.{length-part, put_mid_below, put_mid_inside, put_mid_above}
use Rattle.pf_row_major.proofs.write_at.Goals as goal

pub overflow_add-begin : goal.overflow_add-begin
overflow_add-begin g c = omega (arith, c.requires)

pub slice_bounds-copy_from_slice-end : goal.slice_bounds-copy_from_slice-end
slice_bounds-copy_from_slice-end g c = omega (arith, c.requires)

pub copy_from_slice-requires : goal.copy_from_slice-requires
copy_from_slice-requires g c = length-part c.args.begin (length c.args.part.now) c.args.values.now c.requires

pub returns : goal.returns
returns g c = record {
  inside = λ i d l. put_mid_inside c.args.begin (c.args.begin + length c.args.part.now - c.args.begin) c.args.values.now c.copy_from_slice.new.self (omega (arith, c.requires)) (omega (arith, ap length c.copy_from_slice.ensures.after)) i d (omega (arith, l)) ∙ ap (λ xs. get_or xs i d) c.copy_from_slice.ensures.after;
  below = λ i d l. put_mid_below c.args.begin (c.args.begin + length c.args.part.now - c.args.begin) c.args.values.now c.copy_from_slice.new.self (omega (arith, c.requires)) (omega (arith, ap length c.copy_from_slice.ensures.after)) i d l;
  above = λ i d l. put_mid_above c.args.begin (c.args.begin + length c.args.part.now - c.args.begin) c.args.values.now c.copy_from_slice.new.self (omega (arith, c.requires)) (omega (arith, ap length c.copy_from_slice.ensures.after)) i d (omega (arith, l));
}
