use Rattle.std.proofs.Common.{◌≡◌, take, drop}
use Rattle.std.specs.List.{AllZip}
use Rattle.pf_matrix.specs.Tables.{IsMatrix}
use Rattle.pf_matrix.specs.Rows.{joined, first_length, first_refusal}
use Rattle.pf_matrix.proofs.macros.from_slices.Given as goal

-- the rows so far are put in, and the first refusal is among the others
abbrev pub invariant-loop-row : goal.invariant-loop-row
invariant-loop-row g l = record {
  matrix : IsMatrix l.matrix;
  rows : l.matrix.rows ≡ l.row-index;
  columns : l.matrix.columns ≡ first_length l.rows;
  values : AllZip g.C.Clone.is_clone (joined (take l.row-index l.rows)) l.matrix.values;
  rest : first_refusal (first_length l.rows) (drop l.row-index l.rows) ≡ first_refusal (first_length l.rows) l.rows;
}
