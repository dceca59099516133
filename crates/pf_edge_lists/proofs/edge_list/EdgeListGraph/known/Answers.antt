use Rattle.std.proofs.Common.{subst, length}
use Rattle.pf_tables.specs.Graphs.{IsGraph}
use Rattle.pf_edge_lists.specs.EdgeLists.{names_of, places_of}
use Rattle.pf_edge_lists.proofs.EdgeListLemmas.{edge_list_graph}
use Rattle.pf_edge_lists.proofs.edge_list.EdgeListGraph.known.Goals as goal

pub returns : goal.returns
returns g c = subst (λ es. IsGraph g.C.Number.value (length (names_of g.N.PartialEq.eq es)) (places_of g.N.PartialEq.eq es)) c.self.view_is
    (edge_list_graph g.met.N.Eq.laws _ _ _ c.self.invariant g.C.Number.value c.known.ensures)
