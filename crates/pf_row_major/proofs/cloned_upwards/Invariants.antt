use Rattle.std.proofs.Common.{◌+◌, ◌-◌, ◌*◌}
use Rattle.pf_row_major.proofs.FillLemmas.{Filling}
use Rattle.pf_row_major.proofs.cloned_upwards.Given as goal

-- the rows so far are the last ones, upwards
abbrev pub invariant-loop-row : goal.invariant-loop-row
invariant-loop-row g l = Filling g.C.Clone.is_clone l.columns (λ r c. (l.rows - 1 - r) * l.columns + c) l.all l.values.items (l.row * l.columns)
