use Rattle.std.proofs.Common.{ap, refl, arith, length}
use Rattle.pf_matrix.specs.Tables.{Table}
use Rattle.pf_matrix.proofs.TableLemmas.{matrix_anew}
use Rattle.pf_matrix.proofs.matrix.Matrix.transpose.Goals as goal

pub returns-then-is_square-clause-transposed : goal.returns-then-is_square-clause-transposed
returns-then-is_square-clause-transposed g c = c.transpose_in_place.ensures

pub invariant_of-self : goal.invariant_of-self
invariant_of-self g c =
    let s = c.self.inside in
    let m : Table g.row.C.Denot = record { rows = s.rows; columns = s.columns; values = s.values.items } in
    matrix_anew m c.move_by_columns.new.values.items c.self.invariant (ap length c.in_err-move_by_columns.ensures.err)

pub returns-clause-transposed : goal.returns-clause-transposed
returns-clause-transposed g c =
    let moved = c.in_ok-move_by_columns.ensures in
    rw (← c.self.view_is, c.swap.ensures.x_after, c.swap.ensures.y_after) (record {
      rows = refl;
      columns = refl;
      values = moved.moved;
      matrix = record {
        sized = omega (arith, c.move_by_columns.new.values.ok.0, moved.len, c.self.inside.values.ok.0, c.self.invariant.sized);
        filled = rw (← c.self.view_is) at c.requires;
        fits = omega (arith, c.self.invariant.fits);
      };
    })
