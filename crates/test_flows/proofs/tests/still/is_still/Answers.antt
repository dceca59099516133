use Rattle.pf_flow.proofs.AgreeLemmas.{network_agrees}
use Rattle.test_flows.proofs.tests.still.is_still.Goals as goal

pub is_read-requires : goal.is_read-requires
is_read-requires g c = network_agrees c.make_room.ensures.same c.augment.ensures.network
