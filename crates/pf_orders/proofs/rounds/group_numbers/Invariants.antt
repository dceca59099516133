use Rattle.std.proofs.Common.{◌+◌, length}
use Rattle.pf_orders.specs.Internal.Rounds.{waiting_count}
use Rattle.pf_orders.proofs.RoundLemmas.{IsGrouping}
use Rattle.pf_orders.proofs.rounds.group_numbers.Given as goal

abbrev pub invariant-rounds : goal.invariant-rounds
invariant-rounds g l = IsGrouping l.fn.rows.items l.rows.items l.counts.items l.groups.items l.group.items

abbrev pub decreases-rounds : goal.decreases-rounds
decreases-rounds g l = waiting_count l.counts.items + length l.group.items
