use Rattle.std.proofs.Common.{ℕ, take, pos}
use Rattle.std.specs.Prelude.{◌≤ℤ◌, ◌<ℤ◌}
use Rattle.pf_residual.specs.Internal.Cancelling.{Has, HasAmount}
use Rattle.pf_residual.proofs.cancelling.cycle.least_amount.Given as goal

abbrev pub invariant-arcs : goal.invariant-arcs
invariant-arcs g l = record {
  some : pos 0 <ℤ g.C.Number.value l.least;
  limited : g.C.Number.value l.least ≤ℤ g.C.Number.value l.fn.limit;
  each : (k : ℕ) → Has (take l.number-index l.cycle) k → HasAmount g.C.Number.value l.amounts k (λ z. g.C.Number.value l.least ≤ℤ z);
}
