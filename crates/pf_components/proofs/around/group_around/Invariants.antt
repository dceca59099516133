use Rattle.std.proofs.Common.{◌≡◌}
use Rattle.pf_components.proofs.around.group_around.Given as goal

abbrev pub invariant-adjacent : goal.invariant-adjacent
invariant-adjacent g l = l.group.items ≡ l.yielded
