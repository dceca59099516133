use Rattle.std.proofs.Common.{◌<◌, nat_eq}
use Rattle.std.specs.HashMap.{get}
use Rattle.test_orders_and_estimates.proofs.Halves.{Falls}
use Rattle.test_orders_and_estimates.proofs.search.parents.halves.Given as goal

abbrev pub invariant-loop-number : goal.invariant-loop-number
invariant-loop-number l = record { positive : 0 < l.number; falls : Falls (get nat_eq l.parents) }
