use Rattle.std.proofs.Common.{◌≡◌, ℕ, true}
use Rattle.pf_residual.specs.Internal.AugmentingPaths.{IsPushed, KeepsLevels}
use Rattle.pf_residual.proofs.paths.add_along.Given as goal

-- the amount was added along the steps so far
abbrev pub invariant-loop-place : goal.invariant-loop-place
invariant-loop-place g l = record {
  pushed : IsPushed g.C.Number.fits (g.S.FlowStore.network l.fn.store) l.path (g.C.Number.value l.amount) l.place (g.S.FlowStore.network l.store);
  levels : KeepsLevels (g.S.FlowStore.network l.fn.store) l.path (g.C.Number.value l.amount) l.place (g.S.FlowStore.network l.store);
  room : (a b : ℕ) → (g.S.FlowStore.network l.fn.store).room a b ≡ true → (g.S.FlowStore.network l.store).room a b ≡ true;
}
