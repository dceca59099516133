use Rattle.std.proofs.Common.{◌≤◌, length}
use Rattle.pf_core.specs.Numbered.{Grows}
use Rattle.pf_informed.specs.Internal.Chains.{before_in}
use Rattle.pf_informed.specs.Internal.Tight.{AreRows, IsTight}
use Rattle.pf_informed.proofs.tight.tight_edges.Given as goal

abbrev pub invariant-numbers : goal.invariant-numbers
invariant-numbers g l = record {
  few : l.number ≤ length l.labels;
  rows : AreRows l.number (length l.labels) l.tight.before;
  grows : Grows (g.G.NumberedGraph.node_count l.fn.graph) (g.G.NumberedGraph.node_count l.graph) (g.G.NumberedGraph.stands l.fn.graph) (g.G.NumberedGraph.stands l.graph);
  tight : (h : g.G.NumberedGraph.Graph) → g.G.NumberedGraph.explores l.fn.graph h
      → g.G.NumberedGraph.explores l.graph h × IsTight g.C.Number.value l.labels (g.G.NumberedGraph.step h) (g.G.NumberedGraph.passes h) (g.G.NumberedGraph.stands l.graph) (g.C.Number.value l.best) l.number l.tight.goals.items (before_in l.tight.before);
}
