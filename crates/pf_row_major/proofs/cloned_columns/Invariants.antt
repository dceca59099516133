use Rattle.std.proofs.Common.{◌+◌, ◌*◌, ◌≤◌, length, vec_capacity}
use Rattle.pf_row_major.proofs.FillLemmas.{Filling}
use Rattle.pf_row_major.proofs.cloned_columns.Given as goal

-- the columns so far are the rows of the copy, and there is room for the others
abbrev pub invariant-loop-column : goal.invariant-loop-column
invariant-loop-column g l = record {
  room : length l.all ≤ vec_capacity l.values;
  filling : Filling g.C.Clone.is_clone l.rows (λ r c. c * l.columns + r) l.all l.values.items (l.column * l.rows);
}

abbrev pub invariant-loop-row : goal.invariant-loop-row
invariant-loop-row g l = record {
  room : length l.all ≤ vec_capacity l.values;
  filling : Filling g.C.Clone.is_clone l.rows (λ r c. c * l.columns + r) l.all l.values.items (l.column * l.rows + l.row);
}
