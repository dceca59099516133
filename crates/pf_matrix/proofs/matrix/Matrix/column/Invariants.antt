use Rattle.std.proofs.Common.{◌≡◌, map}
use Rattle.std.specs.Borrow.{Bor}
use Rattle.pf_matrix.specs.Lines.{column_by}
use Rattle.pf_matrix.proofs.matrix.Matrix.column.Given as goal

-- the references so far are those of the rows so far
abbrev pub invariant-loop-row : goal.invariant-loop-row
invariant-loop-row g l = map (λ (x : Bor g.row.C.Denot). x.now) l.refs.items ≡ column_by l.row l.self-inside.columns l.column l.values
