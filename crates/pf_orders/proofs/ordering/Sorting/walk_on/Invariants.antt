use Rattle.std.proofs.Common.{◌≡◌, ◌+◌, ◌-◌, ◌*◌, ◌^◌, length}
use Rattle.std.specs.Prelude.{reverse}
use Rattle.pf_core.specs.Numbered.{Grows}
use Rattle.pf_orders.specs.Internal.Orderings.{IsSorting, IsAlong, entered_count}
use Rattle.pf_orders.proofs.ordering.Sorting.walk_on.Given as goal

abbrev pub invariant-turns : goal.invariant-turns
invariant-turns g l = record {
  sorting : IsSorting (g.G.NumberedGraph.node_count l.graph) l.self.marks.items (reverse l.self.left.items) (reverse l.self.turns.items);
  grown : Grows (g.G.NumberedGraph.node_count l.fn.graph) (g.G.NumberedGraph.node_count l.graph) (g.G.NumberedGraph.stands l.fn.graph) (g.G.NumberedGraph.stands l.graph);
  explored : (h : g.G.NumberedGraph.Graph) → g.G.NumberedGraph.explores l.fn.graph h → g.G.NumberedGraph.explores l.graph h;
  along : (h : g.G.NumberedGraph.Graph) → g.G.NumberedGraph.explores l.fn.graph h
      → IsAlong (g.G.NumberedGraph.successors h) (g.G.NumberedGraph.stands l.graph) (g.G.NumberedGraph.node_count l.fn.graph) l.self.marks.items (reverse l.self.left.items) (reverse l.self.turns.items);
  ticks : l.tally ≡ l.fn.tally + entered_count l.self.marks.items;
}

abbrev pub decreases-turns : goal.decreases-turns
decreases-turns g l = (2 ^ 64 - entered_count l.self.marks.items) * 2 ^ 64 + length l.self.turns.items
