use Rattle.std.proofs.Common.{◌≡◌}
use Rattle.pf_base.specs.Places.{number}
use Rattle.pf_base.specs.Sums.{sum_to}
use Rattle.pf_flow.proofs.makers.sum_of.Given as goal

abbrev pub invariant-numbers : goal.invariant-numbers
invariant-numbers g l = g.C.Number.value l.sum ≡ sum_to (number g.C.Number.value l.numbers) l.number-index
