use Rattle.std.proofs.Common.{take}
use Rattle.pf_yen.proofs.NamedLemmas.{IsCheapestTo}
use Rattle.pf_yen.proofs.filtered.cheapest_step.Given as goal

abbrev pub invariant-steps : goal.invariant-steps
invariant-steps g l = IsCheapestTo g.C.Number.value l.to (take l.next-index l.row) l.least
