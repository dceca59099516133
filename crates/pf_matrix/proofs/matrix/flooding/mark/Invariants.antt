use Rattle.std.proofs.Common.{take}
use Rattle.pf_matrix.proofs.MarkLemmas.{IsMarked}
use Rattle.pf_matrix.proofs.matrix.flooding.mark.Given as goal

-- the positions so far are marked
abbrev pub invariant-loop-position : goal.invariant-loop-position
invariant-loop-position g l = IsMarked l.fn.table l.table (take l.position-index l.position-items)
