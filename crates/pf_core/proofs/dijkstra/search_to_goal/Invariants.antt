use Rattle.std.proofs.Common.{◌≡◌, ◌-◌, ◌+◌, ◌^◌, length}
use Rattle.pf_core.specs.Steps.{IsNonNegative}
use Rattle.pf_core.specs.Numbered.{Grows}
use Rattle.pf_core.specs.Labels.{settled_count}
use Rattle.pf_core.specs.Search.{IsSound}
use Rattle.pf_core.proofs.SearchedLemmas.{IsSearching}
use Rattle.pf_core.proofs.dijkstra.search_to_goal.Given as goal

abbrev pub invariant-turns : goal.invariant-turns
invariant-turns g l = record {
  sound : IsSound g.C.Number.value l.search.labels.items l.search.queue.items;
  wide : length l.search.labels.items ≡ g.G.NumberedGraph.node_count l.graph;
  asked : l.tally ≡ l.fn.tally + settled_count l.search.labels.items;
  grown : Grows (g.G.NumberedGraph.node_count l.fn.graph) (g.G.NumberedGraph.node_count l.graph) (g.G.NumberedGraph.stands l.fn.graph) (g.G.NumberedGraph.stands l.graph);
  explored : (h : g.G.NumberedGraph.Graph) → g.G.NumberedGraph.explores l.fn.graph h → g.G.NumberedGraph.explores l.graph h;
  searching : (h : g.G.NumberedGraph.Graph) → g.G.NumberedGraph.explores l.fn.graph h → IsNonNegative (g.G.NumberedGraph.step h)
      → IsSearching g.C.Number.value (g.G.NumberedGraph.step h) (g.G.NumberedGraph.passes h) l.start (g.G.NumberedGraph.stands l.graph) l.search.labels.items;
}

abbrev pub decreases-turns : goal.decreases-turns
decreases-turns g l = 2 ^ 64 - settled_count l.search.labels.items
