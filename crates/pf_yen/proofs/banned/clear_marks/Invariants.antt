use Rattle.std.proofs.Common.{drop}
use Rattle.pf_yen.proofs.MarkLemmas.{OnlyMarked}
use Rattle.pf_yen.proofs.banned.clear_marks.Given as goal

abbrev pub invariant-numbers : goal.invariant-numbers
invariant-numbers g l = OnlyMarked l.marks.items (drop l.number-index l.numbers)
