use Rattle.std.proofs.Common.{ap, sym, subst, refl, ◌∙◌, length}
use Rattle.std.specs.List.{AllZip}
use Rattle.pf_matrix.specs.Tables.{Table}
use Rattle.pf_matrix.proofs.TableLemmas.{matrix_anew}
use Rattle.pf_matrix.proofs.matrix.traits.MatrixClone.clone.Goals as goal

pub invariant_of-result : goal.invariant_of-result
invariant_of-result g c =
    let s = c.self.inside in
    let m : Table g.row.C.Denot = record { rows = s.rows; columns = s.columns; values = s.values.items } in
    let vs = c.in_ok-values.values in
    matrix_anew m vs.items c.self.invariant (sym vs.ok.0 ∙ c.in_ok-values.ensures.len ∙ ap length c.as_slice.ensures.value)

pub returns : goal.returns
returns g c = record {
  cases = rw (← c.self.view_is) (record {
    rows = refl;
    columns = refl;
    values = subst (λ xs. AllZip g.C.Clone.is_clone xs c.in_ok-values.values.items) c.as_slice.ensures.value c.in_ok-values.ensures.items;
    matrix = invariant_of-result g c;
  });
}
