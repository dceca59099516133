use Rattle.std.proofs.Common.{◌≡◌, ℕ, Some, length, slice_get}
use Rattle.std.specs.Prelude.{Vec}
use Rattle.std.specs.List.{AllZip}
use Rattle.pf_core.specs.Numbered.{Grows}
use Rattle.pf_orders.specs.Internal.Rounds.{AreCounted}
use Rattle.pf_orders.proofs.rows.fill_rows.Given as goal

abbrev pub invariant-numbers : goal.invariant-numbers
invariant-numbers g l = record {
  same : g.G.NumberedGraph.node_count l.graph ≡ g.G.NumberedGraph.node_count l.fn.graph;
  grown : Grows (g.G.NumberedGraph.node_count l.fn.graph) (g.G.NumberedGraph.node_count l.graph) (g.G.NumberedGraph.stands l.fn.graph) (g.G.NumberedGraph.stands l.graph);
  explored : (h : g.G.NumberedGraph.Graph) → g.G.NumberedGraph.explores l.fn.graph h → g.G.NumberedGraph.explores l.graph h;
  counted : AreCounted l.rows.items l.counts.items;
  long : length l.counts.items ≡ l.count;
  wide : length l.rows.items ≡ l.number;
  listed : (h : g.G.NumberedGraph.Graph) → g.G.NumberedGraph.explores l.fn.graph h → (k : ℕ) (row : Vec ℕ g.row.A.Denot) (x : g.G.NumberedGraph.Node)
      → slice_get l.rows.items k ≡ Some row → g.G.NumberedGraph.stands l.graph k x → AllZip (g.G.NumberedGraph.stands l.graph) row.items (g.G.NumberedGraph.successors h x);
}
