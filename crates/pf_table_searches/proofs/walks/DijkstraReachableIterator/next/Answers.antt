use Rattle.pf_search.specs.CheapestFirst.{CheapestWalk}
use Rattle.pf_table_searches.specs.TableWalks.{TableWalk}
use Rattle.pf_table_searches.proofs.TableWalkLemmas.{goes_on}
use Rattle.pf_table_searches.proofs.walks.DijkstraReachableIterator.next.Goals as goal

pub returns-clause-goes : goal.returns-clause-goes
returns-clause-goes g c =
    let i = c.self.inside in
    let at : CheapestWalk _ g.row.C.Denot g.row.G.Denot → TableWalk g.row.G.Denot (CheapestWalk _ g.row.C.Denot g.row.G.Denot) = λ w. record { table = i.graph.now; start = i.start; walk = w } in
    rw (← c.self.view_is) (goes_on (λ s. s.walk) (at i.walk) c.next.result (at c.next.new.self) tt c.next.ensures.goes)
