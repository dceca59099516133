use Rattle.pf_residual.specs.Internal.Prefixes.{ListsFlowsBefore}
use Rattle.pf_flow.proofs.listings.list_flows.Given as goal

abbrev pub invariant-rows : goal.invariant-rows
invariant-rows g l = ListsFlowsBefore g.C.Number.value (g.S.FlowStore.network l.store) l.from l.flows.items
