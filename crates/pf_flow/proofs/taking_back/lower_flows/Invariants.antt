use Rattle.pf_residual.specs.Internal.Balances.{IsBalanced}
use Rattle.pf_residual.specs.Internal.Settled.{IsSettled}
use Rattle.pf_flow.proofs.taking_back.lower_flows.Given as goal

abbrev pub invariant-arcs : goal.invariant-arcs
invariant-arcs g l = record {
  balanced : IsBalanced g.C.Number.fits (g.S.FlowStore.network l.store);
  settled : IsSettled g.C.Number.value l.number l.ends l.amounts (g.S.FlowStore.network l.fn.store) (g.S.FlowStore.network l.store);
}
