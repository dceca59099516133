use Rattle.std.proofs.Common.{◌≡◌, length}
use Rattle.pf_yen.proofs.backward.Backward.go_back.Given as goal

abbrev pub invariant-steps : goal.invariant-steps
invariant-steps g l = length l.self.costs.items ≡ length l.fn.self.costs.items
