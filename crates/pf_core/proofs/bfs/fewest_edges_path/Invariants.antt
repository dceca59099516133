use Rattle.std.proofs.Common.{ℕ, ◌≡◌, ◌≤◌, ◌-◌, ◌^◌, length, true, false}
use Rattle.pf_core.specs.declared.labels.Label.{Label}
use Rattle.pf_core.specs.Steps.{IsHop}
use Rattle.pf_core.specs.Labels.{HasLabel, by_depth, IsTree}
use Rattle.pf_core.specs.Numbered.{Grows}
use Rattle.pf_core.specs.Search.{IsSearch}
use Rattle.pf_core.specs.Breadth.{IsBreadth, Hops, below}
use Rattle.pf_core.proofs.bfs.fewest_edges_path.Given as goal

abbrev pub invariant-nodes : goal.invariant-nodes
invariant-nodes g l = record {
  len : length l.labels.items ≡ g.G.NumberedGraph.node_count l.graph;
  few : length l.labels.items ≤ 2 ^ 62;
  breadth : IsBreadth l.node l.labels.items;
  tree : IsTree l.labels.items;
  grown : Grows (g.G.NumberedGraph.node_count l.fn.graph) (g.G.NumberedGraph.node_count l.graph) (g.G.NumberedGraph.stands l.fn.graph) (g.G.NumberedGraph.stands l.graph);
  explored : (h : g.G.NumberedGraph.Graph) → g.G.NumberedGraph.explores l.fn.graph h → g.G.NumberedGraph.explores l.graph h;
  search : (h : g.G.NumberedGraph.Graph) → g.G.NumberedGraph.explores l.fn.graph h → IsHop (g.G.NumberedGraph.step h)
      → IsSearch by_depth (g.G.NumberedGraph.step h) (below (g.G.NumberedGraph.node_count l.fn.graph)) (g.G.NumberedGraph.stands l.graph) l.labels.items;
  failed : (h : g.G.NumberedGraph.Graph) → g.G.NumberedGraph.explores l.fn.graph h → (k : ℕ) (m : Label Hops) (x : g.G.NumberedGraph.Node) → HasLabel l.labels.items k m → m.settled ≡ true → g.G.NumberedGraph.stands l.graph k x → g.G.NumberedGraph.passes h x ≡ false;
}

abbrev pub decreases-nodes : goal.decreases-nodes
decreases-nodes g l = 2 ^ 64 - l.node
