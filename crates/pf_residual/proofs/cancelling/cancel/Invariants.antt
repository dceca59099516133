use Rattle.std.proofs.Common.{pos}
use Rattle.std.specs.Prelude.{◌≤ℤ◌, ◌-ℤ◌, unsigned_abs}
use Rattle.pf_residual.specs.Internal.Cancelling.{IsCirculation, IsLowered}
use Rattle.pf_residual.proofs.cancelling.cancel.Given as goal

abbrev pub invariant-rounds : goal.invariant-rounds
invariant-rounds g l = record {
  balanced : IsCirculation g.C.Number.value l.ends l.amounts;
  lowered : IsLowered g.C.Number.value (g.C.Number.value l.fn.excess -ℤ g.C.Number.value l.rest) l.through l.fn.amounts l.amounts;
  some : pos 0 ≤ℤ g.C.Number.value l.rest;
}

abbrev pub decreases-rounds : goal.decreases-rounds
decreases-rounds g l = unsigned_abs (g.C.Number.value l.rest)
