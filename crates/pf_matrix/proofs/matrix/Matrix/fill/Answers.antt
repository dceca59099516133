use Rattle.std.proofs.Common.{sym, refl, ◌∙◌, ◌≡◌}
use Rattle.pf_matrix.specs.Tables.{Table}
use Rattle.pf_matrix.proofs.RowLemmas.{on_err}
use Rattle.pf_matrix.proofs.TableLemmas.{matrix_anew}
use Rattle.pf_base.proofs.Outcomes.{on_refused, refused_as}
use Rattle.pf_matrix.specs.declared.error.MatrixFormatError.TheVariants.{OutOfMemory}
use Rattle.pf_matrix.proofs.matrix.Matrix.fill.Goals as goal

pub invariant_of-self : goal.invariant_of-self
invariant_of-self g c =
    let s = c.self.inside in
    let m : Table g.row.C.Denot = record { rows = s.rows; columns = s.columns; values = s.values.items } in
    let vs = c.in_ok-self-inside.field-0 in
    matrix_anew m vs.items c.self.invariant (sym vs.ok.0 ∙ c.in_ok-self-inside.ensures.len ∙ c.len.ensures ∙ s.values.ok.0)

pub returns-in_err-self-inside : goal.returns-in_err-self-inside
returns-in_err-self-inside g c = record {
  stays = on_err c.from_residual.result refl;
  filled = on_refused _ c.from_residual.result OutOfMemory c.from_residual.ensures.1;
  refused = refused_as (λ e. e ≡ OutOfMemory) c.from_residual.result OutOfMemory c.from_residual.ensures.1 refl;
}

pub returns : goal.returns
returns g c = record {
  filled =
      rw (← c.self.view_is) (record {
        rows = refl;
        columns = refl;
        values = c.in_ok-self-inside.ensures.items;
        matrix = invariant_of-self g c;
      });
  stays = tt;
  refused = tt;
}
