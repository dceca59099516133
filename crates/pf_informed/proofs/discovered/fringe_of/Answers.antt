use Rattle.pf_informed.proofs.LedLemmas.{graph_of}
use Rattle.pf_informed.proofs.discovered.fringe_of.Goals as goal

pub search_on-requires-clause-clones : goal.search_on-requires-clause-clones
search_on-requires-clause-clones g c = c.requires.clones

pub search_on-requires-clause-one : goal.search_on-requires-clause-one
search_on-requires-clause-one g c = c.requires.one

pub search_on-requires-clause-new : goal.search_on-requires-clause-new
search_on-requires-clause-new g c = c.new-search.ensures

pub search_on-requires-clause-graph : goal.search_on-requires-clause-graph
search_on-requires-clause-graph g c =
    let r = c.requires.graph in
    (graph_of r.0 r.1, r.2, r.3, rw c.new-search.ensures.unasked r.5)

pub search_on-requires-clause-unlisted : goal.search_on-requires-clause-unlisted
search_on-requires-clause-unlisted g c = c.new-lists.ensures.listed

pub returns : goal.returns
returns g c = record {
  best = λ start edges test least s d. c.search_on.ensures.best start edges test least s (rw c.new-search.ensures.unasked d);
  overflow = λ start edges test least s d. c.search_on.ensures.overflow start edges test least s (rw c.new-search.ensures.unasked d);
  errors = c.search_on.ensures.errors;
}
