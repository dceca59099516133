use Rattle.std.proofs.Common.{◌+◌, ◌*◌}
use Rattle.pf_row_major.proofs.FillLemmas.{Filling}
use Rattle.pf_row_major.proofs.cloned_part.Given as goal

-- the rows so far are those of the part
abbrev pub invariant-loop-row : goal.invariant-loop-row
invariant-loop-row g l = Filling g.C.Clone.is_clone l.size.1 (λ r c. (l.from.0 + r) * l.columns + (l.from.1 + c)) l.all l.values.items (l.row * l.size.1)
