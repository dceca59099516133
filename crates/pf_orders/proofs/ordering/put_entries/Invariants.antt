use Rattle.std.proofs.Common.{◌≡◌, ◌++◌, take}
use Rattle.pf_orders.specs.Internal.Orderings.{entries}
use Rattle.pf_orders.proofs.ordering.put_entries.Given as goal

abbrev pub invariant-numbers : goal.invariant-numbers
invariant-numbers g l = l.turns.items ≡ l.fn.turns.items ++ entries (take l.number-index l.numbers)
