use Rattle.std.proofs.Common.{◌+◌, ◌*◌, ◌≤◌, vec_capacity}
use Rattle.pf_matrix.proofs.TakeLemmas.{Taking}
use Rattle.pf_matrix.proofs.matrix.transposition.take_by_columns.Given as goal

abbrev pub invariant-loop-column : goal.invariant-loop-column
invariant-loop-column g l = record {
  room : l.rows * l.columns ≤ vec_capacity l.ordered;
  taking : Taking l.rows l.columns l.fn.waiting l.waiting l.ordered.items (l.column * l.rows);
}

abbrev pub invariant-loop-row : goal.invariant-loop-row
invariant-loop-row g l = record {
  room : l.rows * l.columns ≤ vec_capacity l.ordered;
  taking : Taking l.rows l.columns l.fn.waiting l.waiting l.ordered.items (l.column * l.rows + l.row);
}
