use Rattle.pf_flow.proofs.AgreeLemmas.{network_agrees}
use Rattle.test_flows.proofs.pipes.Pipes.be_brief.Goals as goal

pub invariant_of-self : goal.invariant_of-self
invariant_of-self g c =
    let w = c.args.self.now.network in
    record { network = network_agrees c.omit_details.ensures (record { feasible = w.feasible; value = w.value; above = w.above; idle = w.idle; capacities = w.capacities; sum = w.sum }) }
