use Rattle.std.proofs.Common.{◌≡◌, ◌+◌, ◌*◌, ap, sym, subst, refl, ◌∙◌, arith, length, get_or}
use Rattle.std.specs.Prelude.{neg_ℤ, All}
use Rattle.std.proofs.lemmas.List.{with_items_is}
use Rattle.pf_matrix.specs.Tables.{Table}
use Rattle.pf_matrix.proofs.TableLemmas.{matrix_anew, place_in}
use Rattle.pf_matrix.proofs.matrix.traits.MatrixNeg.neg.Goals as goal

pub negate-requires : goal.negate-requires
negate-requires g c =
    subst (λ xs. All (λ x. g.C.Number.fits (neg_ℤ (g.C.Number.value x))) xs) (sym (c.as_mut_slice.ensures.value ∙ ap (λ t. t.values) c.matrix.view_is)) c.requires

pub returns : goal.returns
returns g c =
    let s = c.matrix.inside in
    let m : Table g.row.C.Denot = record { rows = s.rows; columns = s.columns; values = s.values.items } in
    let same = ap length c.as_mut_slice.ensures.value in
    let size : length c.negate.new.values ≡ length s.values.items = c.negate.auto.values ∙ same in
    rw (← c.matrix.view_is) (rw (with_items_is s.values c.negate.new.values (size ∙ sym s.values.ok.0)) (record {
      rows = refl;
      columns = refl;
      values = λ r k d p q.
          let at = r * s.columns + k in
          c.negate.ensures.negated at d (omega (arith, same, place_in m c.matrix.invariant r k p q)) ∙ ap (λ xs. neg_ℤ (g.C.Number.value (get_or xs at d))) c.as_mut_slice.ensures.value;
      matrix = record { sized = size ∙ c.matrix.invariant.sized; filled = c.matrix.invariant.filled; fits = c.matrix.invariant.fits };
    }))

pub invariant_of-matrix : goal.invariant_of-matrix
invariant_of-matrix g c =
    let s = c.matrix.inside in
    let m : Table g.row.C.Denot = record { rows = s.rows; columns = s.columns; values = s.values.items } in
    let size : length c.negate.new.values ≡ length s.values.items = c.negate.auto.values ∙ ap length c.as_mut_slice.ensures.value in
    rw (with_items_is s.values c.negate.new.values (size ∙ sym s.values.ok.0)) (matrix_anew m c.negate.new.values c.matrix.invariant size)
