use Rattle.std.proofs.Common.{◌≡◌, length}
use Rattle.pf_yen.proofs.backward.at_goals.Given as goal

abbrev pub invariant-numbers : goal.invariant-numbers
invariant-numbers g l = length l.search.costs.items ≡ length l.adjacency.rows
