use Rattle.std.proofs.Common.{◌+◌, ◌*◌, max}
use Rattle.pf_row_major.proofs.SquareLemmas.{Exchanging}
use Rattle.pf_row_major.proofs.exchange_band.Given as goal

abbrev pub invariant-loop-row : goal.invariant-loop-row
invariant-loop-row g l = Exchanging l.columns l.from l.to l.fn.values l.values (l.row * l.columns + max l.from (l.row + 1))

abbrev pub invariant-loop-column : goal.invariant-loop-column
invariant-loop-column g l = Exchanging l.columns l.from l.to l.fn.values l.values (l.row * l.columns + l.column)
