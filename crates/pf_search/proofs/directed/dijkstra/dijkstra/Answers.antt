use Rattle.pf_search.proofs.directed.dijkstra.dijkstra.Goals as goal

pub returns : goal.returns
returns g c = record {
  best = c.dijkstra_tallied.ensures.best;
  overflow = c.dijkstra_tallied.ensures.overflow;
  errors = c.dijkstra_tallied.ensures.errors;
}
