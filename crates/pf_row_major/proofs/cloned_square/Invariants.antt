use Rattle.std.proofs.Common.{◌≤◌, ◌+◌, ◌-◌, ◌*◌}
use Rattle.pf_row_major.specs.Parts.{row_from}
use Rattle.pf_row_major.proofs.FillLemmas.{Filling}
use Rattle.pf_row_major.proofs.SquareLemmas.{placed}
use Rattle.pf_row_major.proofs.cloned_square.Given as goal

-- of the rows so far the rows and the columns are exchanged
abbrev pub invariant-loop-from : goal.invariant-loop-from
invariant-loop-from g l = record {
  within : l.from ≤ l.size;
  filled : Filling g.C.Clone.is_clone l.size (placed l.from (λ r c. row_from l.upwards l.size r * l.size + c)) l.all l.values.items (l.from * l.size);
}

abbrev pub decreases-loop-from : goal.decreases-loop-from
decreases-loop-from g l = l.size - l.from

-- and the rows of the band are as they are cloned
abbrev pub invariant-loop-row : goal.invariant-loop-row
invariant-loop-row g l = Filling g.C.Clone.is_clone l.size (placed l.from (λ r c. row_from l.upwards l.size r * l.size + c)) l.all l.values.items (l.row * l.size)
