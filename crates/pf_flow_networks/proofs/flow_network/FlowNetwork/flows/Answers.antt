use Rattle.std.proofs.Common.{length, sym, subst}
use Rattle.std.specs.List.{AllZip}
use Rattle.pf_residual.specs.NamedNetworks.{IsNamed}
use Rattle.pf_residual.specs.Internal.HeldEdges.{RunBelow}
use Rattle.pf_residual.proofs.NamedLemmas.{flows_inside, ok_gives}
use Rattle.pf_flow_networks.proofs.flow_network.FlowNetwork.flows.Goals as goal

pub name_edges-requires : goal.name_edges-requires
name_edges-requires g c = record {
  inside = subst (λ es. RunBelow (length c.as_slice.result.now) es) (sym c.deref.ensures.value) (subst (λ ks. RunBelow (length ks) c.in_ok-flows.flows.items) (sym c.as_slice.ensures.keys)
      (flows_inside c.args.self.now.names.keys (g.S.FlowStore.network c.args.self.now.store) g.C.Number.value c.args.self.now.whole.vertices c.in_ok-flows.flows.items c.in_ok-flows.ensures.listed));
}

pub returns-clause-listed : goal.returns-clause-listed
returns-clause-listed g c = ok_gives c.name_edges.result c.name_edges.ensures.named (λ flows z. (
  c.in_ok-flows.flows.items,
  c.in_ok-flows.ensures.listed,
  subst (λ es. AllZip (IsNamed c.args.self.now.names.keys) es flows.items) c.deref.ensures.value (subst (λ ks. AllZip (IsNamed ks) c.deref.result.now flows.items) c.as_slice.ensures.keys z),
))
