use Rattle.pf_residual.specs.Internal.Prefixes.{ListsFlowsTo}
use Rattle.pf_flow.proofs.listings.add_flows.Given as goal

abbrev pub invariant-ends : goal.invariant-ends
invariant-ends g l = ListsFlowsTo g.C.Number.value (g.S.FlowStore.network l.store) l.from l.ends l.to-index l.flows.items
