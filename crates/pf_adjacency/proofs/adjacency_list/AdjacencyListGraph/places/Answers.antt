use Rattle.std.proofs.Common.{sym}
use Rattle.pf_tables.proofs.OffsetLemmas.{between_length}
use Rattle.pf_adjacency.proofs.adjacency_list.AdjacencyListGraph.places.Goals as goal

pub returns : goal.returns
returns g c = rw c.as_slice-offsets.ensures.value (rw (← c.self.view_is) (sym (between_length c.self.inside.offsets.items c.self.inside.edges.items c.self.invariant.offsets_ok c.args.node (rw (← c.self.view_is) at c.requires))))
