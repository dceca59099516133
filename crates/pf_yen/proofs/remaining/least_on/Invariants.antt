use Rattle.std.proofs.Common.{take}
use Rattle.pf_yen.proofs.RemainingLemmas.{IsLeastOver}
use Rattle.pf_yen.proofs.remaining.least_on.Given as goal

abbrev pub invariant-steps : goal.invariant-steps
invariant-steps g l = IsLeastOver g.C.Number.value g.C.Number.fits l.costs (take l.next-index l.row) l.least
