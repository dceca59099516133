use Rattle.std.proofs.Common.{ap, sym}
use Rattle.pf_tables.specs.Graphs.{successors_of}
use Rattle.pf_table_searches.proofs.depth.dfs.Goals as goal

pub dfs_over-requires-clause-graph : goal.dfs_over-requires-clause-graph
dfs_over-requires-clause-graph g c = (
  successors_of g.C.Number.value (g.G.Graph.size c.args.graph.now) (g.G.Graph.places c.args.graph.now),
  g.T.Goals.passes c.args.goals,
  record {
    successors_answered = ap (λ t. successors_of g.C.Number.value (g.G.Graph.size t) (g.G.Graph.places t)) (sym c.new-2.ensures);
    test_answered = ap g.T.Goals.passes (sym c.new-3.ensures);
  },
)

pub returns : goal.returns
unfolding dfs_over-requires-clause-graph
returns g c =
    let p = dfs_over-requires-clause-graph g c.before in
    let e = c.dfs_over.ensures in
    record { first = e.first p.0 p.1 p.2; errors = e.errors }
