use Rattle.pf_yen.proofs.ReducedLemmas.{AreReducedUpTo}
use Rattle.pf_yen.proofs.reduced.reduced_rows.Given as goal

abbrev pub invariant-numbers : goal.invariant-numbers
invariant-numbers g l = AreReducedUpTo g.C.Number.value l.costs l.adjacency l.number l.rows
