use Rattle.std.proofs.Common.{take}
use Rattle.pf_orders.specs.Internal.Rounds.{IsRound}
use Rattle.pf_orders.proofs.rounds.round.Given as goal

abbrev pub invariant-numbers : goal.invariant-numbers
invariant-numbers g l = IsRound (take l.number-index l.group) l.next.items l.fn.counts.items l.counts.items l.fn.rows.items l.rows.items
