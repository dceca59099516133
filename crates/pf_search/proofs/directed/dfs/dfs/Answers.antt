use Rattle.pf_search.proofs.directed.dfs.dfs.Goals as goal

pub dfs_over-requires-clause-graph : goal.dfs_over-requires-clause-graph
dfs_over-requires-clause-graph g c = c.requires.graph

pub dfs_over-requires-clause-clones : goal.dfs_over-requires-clause-clones
dfs_over-requires-clause-clones g c = c.requires.clones

pub returns : goal.returns
returns g c = record { first = c.dfs_over.ensures.first; errors = c.dfs_over.ensures.errors }
