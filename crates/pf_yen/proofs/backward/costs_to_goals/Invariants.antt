use Rattle.std.proofs.Common.{◌≡◌, length}
use Rattle.pf_yen.proofs.backward.costs_to_goals.Given as goal

abbrev pub invariant-entries : goal.invariant-entries
invariant-entries g l = length l.search.costs.items ≡ length l.adjacency.rows
