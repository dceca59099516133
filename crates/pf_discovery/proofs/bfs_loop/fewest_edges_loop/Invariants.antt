use Rattle.std.proofs.Common.{ℕ, ◌≡◌, ◌≤◌, ◌-◌, ◌^◌, length, true}
use Rattle.pf_core.specs.declared.labels.Label.{Label}
use Rattle.pf_core.specs.Steps.{IsHop}
use Rattle.pf_discovery.specs.Loops.{Closes}
use Rattle.pf_core.specs.Labels.{HasLabel, by_depth, IsTree}
use Rattle.pf_core.specs.Numbered.{Grows, StandsBelow}
use Rattle.pf_core.specs.Search.{IsSearch}
use Rattle.pf_core.specs.Breadth.{IsBreadth, Hops, below}
use Rattle.pf_discovery.proofs.bfs_loop.fewest_edges_loop.Given as goal

abbrev pub invariant-nodes : goal.invariant-nodes
invariant-nodes g l = record {
  first : l.starts ≡ g.G.NumberedGraph.node_count l.fn.graph;
  len : length l.labels.items ≡ g.G.NumberedGraph.node_count l.graph;
  few : length l.labels.items ≤ 2 ^ 62;
  breadth : IsBreadth l.node l.labels.items;
  tree : IsTree l.labels.items;
  grown : Grows (g.G.NumberedGraph.node_count l.fn.graph) (g.G.NumberedGraph.node_count l.graph) (g.G.NumberedGraph.stands l.fn.graph) (g.G.NumberedGraph.stands l.graph);
  explored : (h : g.G.NumberedGraph.Graph) → g.G.NumberedGraph.explores l.fn.graph h → g.G.NumberedGraph.explores l.graph h;
  search : (h : g.G.NumberedGraph.Graph) → g.G.NumberedGraph.explores l.fn.graph h → IsHop (g.G.NumberedGraph.step h)
      → IsSearch by_depth (g.G.NumberedGraph.step h) (below (g.G.NumberedGraph.node_count l.fn.graph)) (g.G.NumberedGraph.stands l.graph) l.labels.items;
  failed : (h : g.G.NumberedGraph.Graph) → g.G.NumberedGraph.explores l.fn.graph h → (k : ℕ) (m : Label Hops) (x : g.G.NumberedGraph.Node) → HasLabel l.labels.items k m → m.settled ≡ true → g.G.NumberedGraph.stands l.graph k x
      → ¬ (Closes (g.G.NumberedGraph.step h) (StandsBelow (g.G.NumberedGraph.node_count l.fn.graph) (g.G.NumberedGraph.stands l.fn.graph)) x);
}

abbrev pub decreases-nodes : goal.decreases-nodes
decreases-nodes g l = 2 ^ 64 - l.node
