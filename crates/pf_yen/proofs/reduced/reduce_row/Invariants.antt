use Rattle.std.proofs.Common.{take}
use Rattle.pf_yen.specs.Internal.Reduced.{IsReducedRow}
use Rattle.pf_yen.proofs.reduced.reduce_row.Given as goal

abbrev pub invariant-steps : goal.invariant-steps
invariant-steps g l = IsReducedRow g.C.Number.value l.costs (take l.next-index l.row) l.here l.reduced.items
