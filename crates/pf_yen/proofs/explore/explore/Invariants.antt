use Rattle.std.proofs.Common.{◌-◌, ◌^◌, length}
use Rattle.pf_core.specs.Numbered.{Grows}
use Rattle.pf_yen.specs.Internal.Learned.{IsLearned}
use Rattle.pf_yen.proofs.explore.explore.Given as goal

abbrev pub invariant-numbers : goal.invariant-numbers
invariant-numbers g l = record {
  grows : Grows (g.G.NumberedGraph.node_count l.fn.graph) (g.G.NumberedGraph.node_count l.graph) (g.G.NumberedGraph.stands l.fn.graph) (g.G.NumberedGraph.stands l.graph);
  graph : (h : g.G.NumberedGraph.Graph) → g.G.NumberedGraph.explores l.fn.graph h → g.G.NumberedGraph.explores l.graph h;
  learned : (h : g.G.NumberedGraph.Graph) → g.G.NumberedGraph.explores l.fn.graph h
      → IsLearned g.C.Number.value (g.G.NumberedGraph.step h) (g.G.NumberedGraph.passes h) (g.G.NumberedGraph.stands l.fn.graph) (g.G.NumberedGraph.node_count l.fn.graph) l.fn.adjacency
      → IsLearned g.C.Number.value (g.G.NumberedGraph.step h) (g.G.NumberedGraph.passes h) (g.G.NumberedGraph.stands l.graph) (g.G.NumberedGraph.node_count l.graph) l.adjacency;
}

abbrev pub decreases-numbers : goal.decreases-numbers
decreases-numbers g l = 2 ^ 64 - length l.adjacency.rows
