use Rattle.test_hostile_use.proofs.plain.plain.Goals as goal

pub bfs-requires-clause-graph : goal.bfs-requires-clause-graph
bfs-requires-clause-graph g c = rw c.requires.one c.requires.graph

pub bfs_loop-requires-clause-graph : goal.bfs_loop-requires-clause-graph
bfs_loop-requires-clause-graph g c =
    let r = c.requires.graph in
    rw c.requires.one (r.0, r.2.successors_answered)
