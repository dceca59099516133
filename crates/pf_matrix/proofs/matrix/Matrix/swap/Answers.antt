use Rattle.std.proofs.Common.{◌≡◌, ℕ, ◌+◌, ◌*◌, ap, sym, ◌∙◌, arith, length}
use Rattle.std.specs.List.{swap}
use Rattle.std.proofs.lemmas.List.{with_items_is}
use Rattle.pf_matrix.specs.Tables.{Table}
use Rattle.pf_matrix.proofs.TableLemmas.{exchanged_table, matrix_anew, place_in}
use Rattle.pf_matrix.proofs.matrix.Matrix.swap.Goals as goal

pub swap-requires-clause-a_in_bounds : goal.swap-requires-clause-a_in_bounds
swap-requires-clause-a_in_bounds g c =
    let s = c.self.inside in
    let m : Table g.row.C.Denot = record { rows = s.rows; columns = s.columns; values = s.values.items } in
    let inside = rw (← c.self.view_is) at c.requires.a_inside in
    let place = rw (← c.self.view_is) at c.idx-first.ensures.place in
    omega (arith, place, place_in m c.self.invariant c.args.a.0 c.args.a.1 inside.0 inside.1, ap length c.as_mut_slice.ensures.value)

pub swap-requires-clause-b_in_bounds : goal.swap-requires-clause-b_in_bounds
swap-requires-clause-b_in_bounds g c =
    let s = c.self.inside in
    let m : Table g.row.C.Denot = record { rows = s.rows; columns = s.columns; values = s.values.items } in
    let inside = rw (← c.self.view_is) at c.requires.b_inside in
    let place = rw (← c.self.view_is) at c.idx-second.ensures.place in
    omega (arith, place, place_in m c.self.invariant c.args.b.0 c.args.b.1 inside.0 inside.1, ap length c.as_mut_slice.ensures.value)

pub invariant_of-self : goal.invariant_of-self
invariant_of-self g c =
    let s = c.self.inside in
    let m : Table g.row.C.Denot = record { rows = s.rows; columns = s.columns; values = s.values.items } in
    let size : length c.swap.new.self ≡ length s.values.items = c.swap.ensures.len ∙ ap length c.as_mut_slice.ensures.value in
    rw (with_items_is s.values c.swap.new.self (size ∙ sym s.values.ok.0)) (matrix_anew m c.swap.new.self c.self.invariant size)

pub returns : goal.returns
returns g c =
    let s = c.self.inside in
    let m : Table g.row.C.Denot = record { rows = s.rows; columns = s.columns; values = s.values.items } in
    let columns : c.args.self.now.columns ≡ s.columns = ap (λ t. t.columns) (sym c.self.view_is) in
    let place = λ (p : ℕ × ℕ). ap (λ w. p.0 * w + p.1) columns in
    let after = c.swap.ensures.after ∙ (λ i. swap (c.as_mut_slice.ensures.value i) ((c.idx-first.ensures.place ∙ place c.args.a) i) ((c.idx-second.ensures.place ∙ place c.args.b) i)) in
    rw (← c.self.view_is) (rw (with_items_is s.values c.swap.new.self (c.swap.ensures.len ∙ c.as_mut_slice.ensures.len))
    (exchanged_table m c.swap.new.self c.args.a c.args.b c.self.invariant (rw (← c.self.view_is) at c.requires.a_inside) (rw (← c.self.view_is) at c.requires.b_inside) after))
