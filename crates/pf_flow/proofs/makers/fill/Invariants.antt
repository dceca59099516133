use Rattle.std.proofs.Common.{◌≡◌}
use Rattle.pf_residual.specs.Networks.{capacity_sum}
use Rattle.pf_residual.specs.Capacities.{square_table}
use Rattle.pf_residual.specs.Internal.Filling.{IsFilledTo}
use Rattle.pf_flow.proofs.makers.fill.Given as goal

abbrev pub invariant-places : goal.invariant-places
invariant-places g l =
    let N = g.S.FlowStore.network l.fn.store in
    IsFilledTo g.C.Number.fits (square_table g.C.Number.value N.vertices l.capacities) l.place N (g.S.FlowStore.network l.store)
    × (g.C.Number.value l.sum ≡ capacity_sum (g.S.FlowStore.network l.store))
