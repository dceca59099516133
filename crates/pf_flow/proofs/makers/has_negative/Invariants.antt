use Rattle.std.proofs.Common.{◌<◌, ℕ, pos}
use Rattle.std.specs.Prelude.{◌≤ℤ◌}
use Rattle.pf_base.specs.Places.{number}
use Rattle.pf_flow.proofs.makers.has_negative.Given as goal

abbrev pub invariant-numbers : goal.invariant-numbers
invariant-numbers g l = (k : ℕ) → k < l.number-index → pos 0 ≤ℤ number g.C.Number.value l.numbers k
