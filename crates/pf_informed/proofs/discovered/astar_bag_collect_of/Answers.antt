use Rattle.std.proofs.Common.{inl, refl}
use Rattle.pf_informed.proofs.Outcomes.{errors_before, overflow_before}
use Rattle.pf_informed.proofs.discovered.astar_bag_collect_of.Goals as goal

pub astar_bag_of-found-requires-clause-one : goal.astar_bag_of-found-requires-clause-one
astar_bag_of-found-requires-clause-one g c = c.requires.one

pub astar_bag_of-found-requires-clause-graph : goal.astar_bag_of-found-requires-clause-graph
astar_bag_of-found-requires-clause-graph g c = c.requires.graph

pub collected-requires : goal.collected-requires
collected-requires g c = record { clones = c.requires.clones; ready = c.astar_bag_of-found.ensures.ready }

pub returns : goal.returns
returns g c = record {
  all = λ start edges test least s d. c.collected.ensures.all g.C.Number.value start edges test (c.astar_bag_of-found.ensures.all start edges test least s d);
  overflow = λ start edges test least s d e. c.astar_bag_of-found.ensures.overflow start edges test least s d (overflow_before c.collected.result c.astar_bag_of-found.result c.collected.ensures.errors e);
  errors = errors_before _ c.collected.result c.astar_bag_of-found.result c.collected.ensures.errors c.astar_bag_of-found.ensures.errors (inl refl);
}
