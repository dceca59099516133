use Rattle.std.proofs.Common.{◌≡◌, ◌+◌, ◌-◌, ◌*◌, ap, sym, ◌∙◌, length, get_or}
use Rattle.std.proofs.lemmas.List.{with_items_is}
use Rattle.pf_matrix.specs.Tables.{Table}
use Rattle.pf_matrix.proofs.TableLemmas.{arranged_anew, matrix_anew}
use Rattle.pf_matrix.proofs.matrix.Matrix.flip_lr.Goals as goal

pub invariant_of-self : goal.invariant_of-self
invariant_of-self g c =
    let s = c.self.inside in
    let m : Table g.row.C.Denot = record { rows = s.rows; columns = s.columns; values = s.values.items } in
    let ws = c.reverse_rows.new.values in
    let size : length ws ≡ length s.values.items = c.reverse_rows.auto.values ∙ ap length c.as_mut_slice.ensures.value in
    rw (with_items_is s.values ws (size ∙ sym s.values.ok.0)) (matrix_anew m ws c.self.invariant size)

pub returns : goal.returns
returns g c =
    let s = c.self.inside in
    let m : Table g.row.C.Denot = record { rows = s.rows; columns = s.columns; values = s.values.items } in
    let ws = c.reverse_rows.new.values in
    let size : length ws ≡ length s.values.items = c.reverse_rows.auto.values ∙ ap length c.as_mut_slice.ensures.value in
    rw (← c.self.view_is) (rw (with_items_is s.values ws (size ∙ sym s.values.ok.0)) (arranged_anew m ws (λ r k. (r, s.columns - 1 - k)) c.self.invariant size
    (λ r k d p q. c.reverse_rows.ensures.values r k d p q ∙ ap (λ xs. get_or xs (r * s.columns + (s.columns - 1 - k)) d) c.as_mut_slice.ensures.value)))
