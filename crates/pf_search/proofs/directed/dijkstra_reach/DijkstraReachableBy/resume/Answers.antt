use Rattle.std.proofs.Common.{false}
use Rattle.pf_search.proofs.CheapestLemmas.{seen, marked}
use Rattle.pf_search.proofs.directed.dijkstra_reach.DijkstraReachableBy.resume.Goals as goal

pub returns-clause-bar : goal.returns-clause-bar
returns-clause-bar g c = λ edges start b. rw (← c.self.view_is) at b

pub returns-clause-graph : goal.returns-clause-graph
returns-clause-graph g c = λ edges start w.
    let i = c.self.inside in
    let s = seen (g.M.Numbering.keys i.discovery.nodes) i.search.labels.items i.search.queue.front i.refused i.discovery.source.function in
    marked g.N.PartialEq.eq g.met.N.Eq.laws g.C.Number.value _ edges start s false (rw (← c.self.view_is) at w)
