use Rattle.pf_search.proofs.directed.dijkstra_reach.DijkstraReachable+N+C+F+A.new.Goals as goal

pub returns-clause-graph : goal.returns-clause-graph
returns-clause-graph g c = c.over.ensures.graph c.args.start.now c.in_ok-nodes.ensures.same
