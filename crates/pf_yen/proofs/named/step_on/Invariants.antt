use Rattle.std.proofs.Common.{◌≡◌}
use Rattle.pf_yen.specs.Internal.Adjacency.{row_of}
use Rattle.pf_yen.proofs.named.step_on.Given as goal

abbrev pub invariant-steps : goal.invariant-steps
invariant-steps g l = l.next-items ≡ row_of l.filtered.adjacency.now l.number
