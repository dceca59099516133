use Rattle.pf_base.proofs.Outcomes.{same_errors}
use Rattle.pf_informed.proofs.discovered.astar_bag_of.Goals as goal

pub find_ways-found-requires-clause-one : goal.find_ways-found-requires-clause-one
find_ways-found-requires-clause-one g c = c.requires.one

pub find_ways-found-requires-clause-new : goal.find_ways-found-requires-clause-new
find_ways-found-requires-clause-new g c = c.new-search.ensures

pub find_ways-found-requires-clause-graph : goal.find_ways-found-requires-clause-graph
find_ways-found-requires-clause-graph g c =
    let r = c.requires.graph in
    (r.0, r.1, r.2, r.3, r.4, rw c.new-search.ensures.unasked r.5)

pub solution_of-requires : goal.solution_of-requires
solution_of-requires g c = c.find_ways-found.ensures.ways

pub returns : goal.returns
returns g c = record {
  all = λ start edges test least s d. c.solution_of.ensures.all g.C.Number.value start edges test (c.find_ways-found.ensures.all start edges test least s (rw c.new-search.ensures.unasked d));
  ready = c.solution_of.ensures.ready;
  overflow = λ start edges test least s d e. c.find_ways-found.ensures.overflow start edges test least s (rw c.new-search.ensures.unasked d) (c.solution_of.ensures.errors _ e);
  errors = same_errors _ c.solution_of.result c.find_ways-found.result c.solution_of.ensures.errors c.find_ways-found.ensures.errors;
}
