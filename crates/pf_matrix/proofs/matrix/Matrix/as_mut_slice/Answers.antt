use Rattle.std.proofs.Common.{ap, sym, ◌∙◌, refl, rules}
use Rattle.std.specs.List.{refill, length_refill}
use Rattle.pf_matrix.specs.Tables.{Table}
use Rattle.pf_matrix.specs.Lends.{with_values}
use Rattle.pf_matrix.proofs.TableLemmas.{matrix_anew}
use Rattle.pf_matrix.proofs.matrix.Matrix.as_mut_slice.Goals as goal

pub returns : goal.returns
returns g c =
    let s = c.self.inside in (
      (refl, λ w. ap (λ n. let t : Table g.row.C.Denot = record { rows = s.rows; columns = s.columns; values = refill n s.values.items w } in t) s.values.ok.0 ∙ ap (λ (m : Table g.row.C.Denot). with_values m w) c.self.view_is),
      record { writes_back = tt; values = search rules; matrix = search rules },
    )

pub invariant_of-self-lent : goal.invariant_of-self-lent
invariant_of-self-lent g c = λ w.
    let s = c.self.inside in
    let m : Table g.row.C.Denot = record { rows = s.rows; columns = s.columns; values = s.values.items } in
    matrix_anew m (refill s.values.len s.values.items w) c.self.invariant (sym (length_refill s.values.len s.values.items w s.values.ok.0) ∙ s.values.ok.0)
