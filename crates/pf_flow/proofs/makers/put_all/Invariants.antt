-- The edges so far are taken, and their capacities are those of the store.
use Rattle.std.proofs.Common.{◌≡◌, take}
use Rattle.pf_residual.specs.Networks.{KeepsShape, capacity_sum}
use Rattle.pf_residual.specs.Internal.Filling.{IsUnused}
use Rattle.pf_residual.proofs.EdgeLemmas.{HoldsTaken}
use Rattle.pf_flow.proofs.makers.put_all.Given as goal

abbrev pub invariant-edges : goal.invariant-edges
invariant-edges g l = record {
  shape : KeepsShape (g.S.FlowStore.network l.fn.store) (g.S.FlowStore.network l.store);
  unused : IsUnused g.C.Number.fits (g.S.FlowStore.network l.store);
  sum : g.C.Number.value l.sum ≡ capacity_sum (g.S.FlowStore.network l.store);
  held : HoldsTaken g.C.Number.value g.C.Number.fits (g.S.FlowStore.network l.fn.store).vertices (take l.edge-index l.edges) (g.S.FlowStore.network l.store);
}
