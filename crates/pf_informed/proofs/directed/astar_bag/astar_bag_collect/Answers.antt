use Rattle.std.proofs.Common.{inl, refl}
use Rattle.pf_informed.proofs.Outcomes.{errors_before, overflow_before}
use Rattle.pf_informed.proofs.directed.astar_bag.astar_bag_collect.Goals as goal

pub astar_bag-found-requires-clause-clones : goal.astar_bag-found-requires-clause-clones
astar_bag-found-requires-clause-clones g c = c.requires.clones

pub astar_bag-found-requires-clause-graph : goal.astar_bag-found-requires-clause-graph
astar_bag-found-requires-clause-graph g c = c.requires.graph

pub collected-requires : goal.collected-requires
collected-requires g c = record { clones = c.requires.clones; ready = c.astar_bag-found.ensures.ready }

pub returns : goal.returns
returns g c = record {
  all = λ edges test least s. c.collected.ensures.all g.C.Number.value c.args.start.now edges test (c.astar_bag-found.ensures.all edges test least s);
  overflow = λ edges test least s e. c.astar_bag-found.ensures.overflow edges test least s (overflow_before c.collected.result c.astar_bag-found.result c.collected.ensures.errors e);
  errors = errors_before _ c.collected.result c.astar_bag-found.result c.collected.ensures.errors c.astar_bag-found.ensures.errors (inl refl);
}
