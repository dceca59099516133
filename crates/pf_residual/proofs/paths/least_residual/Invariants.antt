use Rattle.std.proofs.Common.{◌≡◌, ◌<◌, ◌+◌, ℕ}
use Rattle.std.specs.Prelude.{◌≤ℤ◌, slice_index}
use Rattle.pf_residual.proofs.paths.least_residual.Given as goal

-- the least residual capacity of the pairs so far
abbrev pub invariant-loop-place : goal.invariant-loop-place
invariant-loop-place g l = record {
  least : (k : ℕ) → k < l.place → g.C.Number.value l.least ≤ℤ (g.S.FlowStore.network l.store).residual (slice_index l.path k) (slice_index l.path (k + 1));
  reached : (k : ℕ) × (k < l.place) × (g.C.Number.value l.least ≡ (g.S.FlowStore.network l.store).residual (slice_index l.path k) (slice_index l.path (k + 1)));
}
