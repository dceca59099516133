use Rattle.pf_core.specs.Numbered.{Grows}
use Rattle.pf_orders.specs.StrongComponents.{lists_of}
use Rattle.pf_orders.specs.Internal.ComponentSearch.{IsPlaced, IsOpenPath, AreClosing}
use Rattle.pf_orders.proofs.component_search.strong_components.Given as goal

abbrev pub invariant-turns : goal.invariant-turns
invariant-turns g l = record {
  grown : Grows (g.G.NumberedGraph.node_count l.fn.graph) (g.G.NumberedGraph.node_count l.graph) (g.G.NumberedGraph.stands l.fn.graph) (g.G.NumberedGraph.stands l.graph);
  explored : (h : g.G.NumberedGraph.Graph) → g.G.NumberedGraph.explores l.fn.graph h → g.G.NumberedGraph.explores l.graph h;
  placed : IsPlaced (g.G.NumberedGraph.node_count l.graph) l.search.places.items l.search.path.items l.search.waiting.items l.search.segments.items (lists_of l.search.components.items);
  path : (h : g.G.NumberedGraph.Graph) → g.G.NumberedGraph.explores l.fn.graph h → IsOpenPath (g.G.NumberedGraph.step h) (g.G.NumberedGraph.stands l.graph) l.search.places.items l.search.path.items l.search.waiting.items l.search.segments.items;
  closing : (h : g.G.NumberedGraph.Graph) → g.G.NumberedGraph.explores l.fn.graph h → AreClosing (g.G.NumberedGraph.step h) (g.G.NumberedGraph.stands l.graph) (lists_of l.search.components.items);
}
