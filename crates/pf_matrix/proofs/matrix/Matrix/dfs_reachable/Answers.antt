use Rattle.pf_matrix.proofs.matrix.Matrix.dfs_reachable.Goals as goal

pub returns : goal.returns
returns g c = record {
  reached = c.bfs_reachable.ensures.reached;
  refused = c.bfs_reachable.ensures.refused;
}
