use Rattle.std.proofs.Common.{◌≡◌}
use Rattle.pf_base.specs.Sums.{sum_to}
use Rattle.pf_residual.specs.Internal.PartSums.{IsPartSum}
use Rattle.pf_residual.proofs.listed_sums.sum_by_lists.Given as goal

abbrev pub invariant-rows : goal.invariant-rows
invariant-rows g l = g.C.Number.value l.sum ≡ sum_to (λ a. sum_to ((g.S.FlowStore.network l.store).residual a) (g.S.FlowStore.network l.store).vertices) l.from

abbrev pub invariant-ends : goal.invariant-ends
invariant-ends g l = IsPartSum (g.S.FlowStore.network l.store) l.from l.end-items l.end-index (g.C.Number.value l.sum)
