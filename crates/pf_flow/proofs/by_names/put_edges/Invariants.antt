use Rattle.std.proofs.Common.{◌≡◌}
use Rattle.pf_residual.specs.Networks.{KeepsShape, capacity_sum}
use Rattle.pf_residual.specs.Internal.HeldEdges.{HoldsEdges}
use Rattle.pf_residual.specs.Internal.Filling.{IsUnused}
use Rattle.pf_flow.proofs.by_names.put_edges.Given as goal

abbrev pub invariant-edges : goal.invariant-edges
invariant-edges g l = record {
  shape : KeepsShape (g.S.FlowStore.network l.fn.store) (g.S.FlowStore.network l.store);
  unused : IsUnused g.C.Number.fits (g.S.FlowStore.network l.store);
  sum : g.C.Number.value l.sum ≡ capacity_sum (g.S.FlowStore.network l.store);
  held : HoldsEdges g.N.PartialEq.eq g.C.Number.value l.names.keys g.C.Number.fits l.yielded (g.S.FlowStore.network l.store);
}
