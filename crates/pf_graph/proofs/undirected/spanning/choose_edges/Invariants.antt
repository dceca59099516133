use Rattle.std.specs.Prelude.{map}
use Rattle.pf_union_find.specs.UnionFind.{IsSound}
use Rattle.pf_graph.specs.Internal.Spanning.SpanningSteps.{placed}
use Rattle.pf_graph.proofs.Spanning.KruskalLemmas.{Grown}
use Rattle.pf_graph.proofs.undirected.spanning.choose_edges.Given as goal

abbrev pub invariant-edges : goal.invariant-edges
invariant-edges g l = record {
  sound : IsSound (map g.V.VertexNumber.stands_for l.parents);
  grown : Grown g.C.Ord.cmp (placed g.V.VertexNumber.stands_for l.yielded) l.chosen.items (map g.V.VertexNumber.stands_for l.parents);
}
