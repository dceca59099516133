use Rattle.pf_informed.proofs.discovered.idastar_of.Goals as goal

pub search_on-requires-clause-clones : goal.search_on-requires-clause-clones
search_on-requires-clause-clones g c = c.requires.clones

pub search_on-requires-clause-one : goal.search_on-requires-clause-one
search_on-requires-clause-one g c = rw c.new-known.ensures.graph c.requires.one

pub search_on-requires-clause-unasked : goal.search_on-requires-clause-unasked
search_on-requires-clause-unasked g c = c.new-known.ensures.unasked

pub search_on-requires-clause-table : goal.search_on-requires-clause-table
search_on-requires-clause-table g c = c.new-known.ensures.table

pub search_on-requires-clause-unopened : goal.search_on-requires-clause-unopened
search_on-requires-clause-unopened g c = c.new-known.ensures.unopened

pub search_on-requires-clause-graph : goal.search_on-requires-clause-graph
search_on-requires-clause-graph g c =
    let r = c.requires.graph in
    (r.0, r.1, r.2, r.3, rw c.new-known.ensures.graph r.4, c.new-known.ensures.known _ r.2 r.3 r.5)

pub returns : goal.returns
returns g c = record {
  best = λ start edges test least s d. c.search_on.ensures.best start edges test least (rw c.new-known.ensures.graph s) (c.new-known.ensures.known _ test least d);
  overflow = λ start edges test least s d. c.search_on.ensures.overflow start edges test least (rw c.new-known.ensures.graph s) (c.new-known.ensures.known _ test least d);
  errors = c.search_on.ensures.errors;
}
