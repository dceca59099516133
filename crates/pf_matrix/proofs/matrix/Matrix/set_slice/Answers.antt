use Rattle.std.proofs.Common.{◌≡◌, ◌+◌, ◌*◌, ap, refl, sym, ◌∙◌, arith, length, get_or}
use Rattle.std.proofs.lemmas.List.{with_items_is}
use Rattle.pf_matrix.specs.Tables.{Table}
use Rattle.pf_matrix.proofs.TableLemmas.{matrix_anew, overwritten_table, rows_within}
use Rattle.std.proofs.lemmas.Bool.{false≢true}
use Rattle.pf_matrix.proofs.matrix.Matrix.set_slice.Goals as goal

pub copy_part-requires-clause-rows : goal.copy_part-requires-clause-rows
copy_part-requires-clause-rows g c =
    let s = c.self.inside in
    let m : Table g.row.C.Denot = record { rows = s.rows; columns = s.columns; values = s.values.items } in
    let here = rw (← c.self.view_is) at (c.if-not-within_bounds.ensures.0 refl) in
    rows_within m _ c.as_mut_slice.result.now c.self.invariant c.as_mut_slice.ensures.value (omega (arith, here.0))

pub copy_part-requires-clause-columns : goal.copy_part-requires-clause-columns
copy_part-requires-clause-columns g c =
    let here = rw (← c.self.view_is) at (c.if-not-within_bounds.ensures.0 refl) in
    omega (arith, here.1)

pub copy_part-requires-clause-part_rows : goal.copy_part-requires-clause-part_rows
copy_part-requires-clause-part_rows g c =
    let p = c.part.inside in
    let part : Table g.row.C.Denot = record { rows = p.rows; columns = p.columns; values = p.values.items } in
    rows_within part _ c.as_slice.result.now c.part.invariant c.as_slice.ensures.value (omega arith)

pub invariant_of-self : goal.invariant_of-self
invariant_of-self g c =
    let s = c.self.inside in
    let m : Table g.row.C.Denot = record { rows = s.rows; columns = s.columns; values = s.values.items } in
    let size : length c.copy_part.new.values ≡ length s.values.items = c.copy_part.auto.values ∙ ap length c.as_mut_slice.ensures.value in
    rw (with_items_is s.values c.copy_part.new.values (size ∙ sym s.values.ok.0)) (matrix_anew m c.copy_part.new.values c.self.invariant size)

pub returns : goal.returns
returns g c =
    let s = c.self.inside in
    let p = c.part.inside in
    let at = c.args.position in
    let m : Table g.row.C.Denot = record { rows = s.rows; columns = s.columns; values = s.values.items } in
    let part : Table g.row.C.Denot = record { rows = p.rows; columns = p.columns; values = p.values.items } in
    let here = rw (← c.self.view_is) at (c.if-not-within_bounds.ensures.0 refl) in
    let size : length c.copy_part.new.values ≡ length s.values.items = c.copy_part.auto.values ∙ ap length c.as_mut_slice.ensures.value in
    rw (← c.self.view_is, ← c.part.view_is) (rw (with_items_is s.values c.copy_part.new.values (size ∙ sym s.values.ok.0))
    (overwritten_table m part c.copy_part.new.values at _ _ c.self.invariant size (omega (arith, here.0)) (omega (arith, here.1)) (omega arith) (omega arith)
    (λ r k d h b. c.copy_part.ensures.copied r k d h b ∙ ap (λ xs. get_or xs (r * p.columns + k) d) c.as_slice.ensures.value)
    (λ r k d h n. c.copy_part.ensures.others r k d h n ∙ ap (λ xs. get_or xs (r * s.columns + k) d) c.as_mut_slice.ensures.value)))

pub overflow_sub-self-inside : goal.overflow_sub-self-inside
overflow_sub-self-inside g c =
    let here = rw (← c.self.view_is) at (c.if-not-within_bounds.ensures.0 refl) in
    omega (arith, here.0)

pub overflow_sub-self-inside-2 : goal.overflow_sub-self-inside-2
overflow_sub-self-inside-2 g c =
    let here = rw (← c.self.view_is) at (c.if-not-within_bounds.ensures.0 refl) in
    omega (arith, here.1)

pub copy_part-requires-clause-part_columns : goal.copy_part-requires-clause-part_columns
copy_part-requires-clause-part_columns g c = omega (arith, c.min-width.ensures)

pub returns-then-not-within_bounds : goal.returns-then-not-within_bounds
returns-then-not-within_bounds g c = record {
  rows = refl;
  columns = refl;
  written = λ r k d p q v. absurd (false≢true (c.if-not-within_bounds.ensures.1 (omega (arith, v.below, p), omega (arith, v.right, q))));
  others = λ r k d p q n. refl;
  matrix = rw (← c.self.view_is) c.self.invariant;
}
