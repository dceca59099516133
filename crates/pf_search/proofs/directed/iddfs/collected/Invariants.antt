use Rattle.std.proofs.Common.{◌≡◌}
use Rattle.pf_search.proofs.directed.iddfs.collected.Given as goal

abbrev pub invariant-items : goal.invariant-items
invariant-items g l = l.answer.items ≡ l.yielded
