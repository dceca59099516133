use Rattle.pf_orders.proofs.RoundLemmas.{AreNumbersWith}
use Rattle.pf_orders.proofs.rounds.numbers_with.Given as goal

abbrev pub invariant-numbers : goal.invariant-numbers
invariant-numbers g l = AreNumbersWith l.counts l.waiting l.number l.numbers.items
