use Rattle.std.proofs.Common.{◌≡◌}
use Rattle.pf_base.specs.Sums.{sum_to}
use Rattle.pf_residual.proofs.sums.sum_of_capacities.Given as goal

abbrev pub invariant-rows : goal.invariant-rows
invariant-rows g l = g.C.Number.value l.sum ≡ sum_to (λ a. sum_to ((g.S.FlowStore.network l.store).residual a) (g.S.FlowStore.network l.store).vertices) l.from
