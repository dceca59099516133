use Rattle.pf_table_searches.specs.Internal.Trails.{AreAllMarked}
use Rattle.pf_table_searches.proofs.deepening.next_end.Given as goal

abbrev pub invariant-places : goal.invariant-places
invariant-places g l = AreAllMarked (g.G.Graph.places l.graph l.node) l.marked l.first l.place
