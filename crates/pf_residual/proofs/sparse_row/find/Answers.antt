use Rattle.std.proofs.Common.{◌≡◌, arith, false}
use Rattle.pf_residual.specs.SparseRows.{ends, has_end}
use Rattle.pf_residual.proofs.SparseRowLemmas.{found, absent}
use Rattle.pf_residual.proofs.sparse_row.find.Goals.{else-place-row-via-then-place-row+else-row-place, else-place-row-via-else-place-row}
use Rattle.pf_residual.proofs.sparse_row.find.Goals as goal

pub returns-then-row-place-clause-found : goal.returns-then-row-place-clause-found
returns-then-row-place-clause-found g c = found c.args.row.now c.args.to c.place-place.result c.index-row-place.result c.if-place-row.true c.if-row-place.true

pub returns-else-place-row-clause-none : goal.returns-else-place-row-clause-none
returns-else-place-row-clause-none g c = elim c.else-place-row.branch as (λ w. has_end (ends c.args.row.now) c.args.to ≡ false) [ else-place-row-via-then-place-row+else-row-place w ↦ absent 0 c.args.row.now c.args.to c.requires (λ l. (w.index-row-place.result, λ q. w.if-row-place.false (rw c.place-place.ensures.place q))) | else-place-row-via-else-place-row w ↦ absent 0 c.args.row.now c.args.to c.requires (λ l. absurd (omega (arith, l, c.place-place.ensures.place, w.if-place-row.false))) ]
