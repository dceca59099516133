use Rattle.pf_adjacency.proofs.adjacency_list.AdjacencyListGraph.known.Goals as goal

pub returns : goal.returns
returns g c = rw (← c.self.view_is) c.self.invariant.graph
