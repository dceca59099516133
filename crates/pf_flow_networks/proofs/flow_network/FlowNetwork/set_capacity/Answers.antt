use Rattle.std.proofs.Common.{inr, subst}
use Rattle.pf_base.specs.Places.{number_of}
use Rattle.pf_residual.specs.Capacities.{IsChangeRefused}
use Rattle.pf_residual.proofs.NamedLemmas.{err_gives}
use Rattle.pf_flow_networks.proofs.flow_network.FlowNetwork.set_capacity.Goals as goal

pub returns-clause-refused : goal.returns-clause-refused
returns-clause-refused g c =
    let names = c.args.self.now.names.keys in
    let N = g.S.FlowStore.network c.args.self.now.store in
    let z = g.C.Number.value c.args.capacity in
    err_gives c.set_capacity.result c.set_capacity.ensures.refused (λ e why. inr (
      (c.in_ok-from.ensures.known, c.in_ok-to.ensures.known),
      subst (λ n. IsChangeRefused g.C.Number.fits N (number_of g.N.PartialEq.eq names c.args.from.now) n z e) c.in_ok-to.ensures.number
          (subst (λ n. IsChangeRefused g.C.Number.fits N n c.in_ok-to.to z e) c.in_ok-from.ensures.number why),
    ))
