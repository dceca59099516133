use Rattle.std.proofs.Common.{◌≡◌, ◌+◌, ◌-◌, ◌*◌, ap, sym, ◌∙◌, length, get_or, reverse}
use Rattle.std.proofs.lemmas.List.{with_items_is, get_or-reverse}
use Rattle.pf_matrix.specs.Tables.{Table}
use Rattle.pf_matrix.proofs.TableLemmas.{arranged_anew, matrix_anew, place_in}
use Rattle.pf_row_major.proofs.SliceLemmas.{turned_place}
use Rattle.pf_matrix.proofs.matrix.Matrix.turn_twice.Goals as goal

pub invariant_of-self : goal.invariant_of-self
invariant_of-self g c =
    let s = c.self.inside in
    let m : Table g.row.C.Denot = record { rows = s.rows; columns = s.columns; values = s.values.items } in
    let ws = c.reverse.new.self in
    let size : length ws ≡ length s.values.items = c.reverse.ensures.len ∙ ap length c.as_mut_slice.ensures.value in
    rw (with_items_is s.values ws (size ∙ sym s.values.ok.0)) (matrix_anew m ws c.self.invariant size)

pub returns : goal.returns
returns g c =
    let s = c.self.inside in
    let m : Table g.row.C.Denot = record { rows = s.rows; columns = s.columns; values = s.values.items } in
    let after : c.reverse.new.self ≡ reverse s.values.items = c.reverse.ensures.after ∙ ap (λ xs. reverse xs) c.as_mut_slice.ensures.value in
    rw (← c.self.view_is) (rw (with_items_is s.values c.reverse.new.self (c.reverse.ensures.len ∙ c.as_mut_slice.ensures.len))
    (arranged_anew m c.reverse.new.self (λ r k. (s.rows - 1 - r, s.columns - 1 - k)) c.self.invariant (c.reverse.ensures.len ∙ ap length c.as_mut_slice.ensures.value)
    (λ r k d p q.
    let place : length s.values.items - 1 - (r * s.columns + k) ≡ (s.rows - 1 - r) * s.columns + (s.columns - 1 - k) = ap (λ n. n - 1 - (r * s.columns + k)) c.self.invariant.sized ∙ turned_place s.rows s.columns r k p q in
    ap (λ xs. get_or xs (r * s.columns + k) d) after ∙ get_or-reverse s.values.items (r * s.columns + k) d (place_in m c.self.invariant r k p q) ∙ ap (λ i. get_or s.values.items i d) place)))
