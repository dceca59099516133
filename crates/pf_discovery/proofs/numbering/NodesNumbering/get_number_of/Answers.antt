use Rattle.pf_discovery.proofs.PlaceLemmas.{found_place}
use Rattle.pf_discovery.proofs.numbering.NodesNumbering.get_number_of.Goals as goal

pub returns : goal.returns
returns g c = found_place g.N.PartialEq.eq g.met.N.Eq.laws c.args.self.now.keys c.args.node.now c.get_index_of.result c.get_index_of.ensures.index c.get_index_of.ensures.found
