use Rattle.std.proofs.Common.{ℕ, Bool, ◌≡◌, ◌≤◌, ◌-◌, length}
use Rattle.std.specs.Prelude.{◌↔◌}
use Rattle.pf_core.specs.Labels.{by_depth}
use Rattle.pf_core.specs.Steps.{IsHop}
use Rattle.pf_core.specs.Search.{IsSearch}
use Rattle.pf_core.specs.Breadth.{IsWave, IsLayered}
use Rattle.pf_two_sided.specs.Internal.Mirrors.{NoneMeets}
use Rattle.pf_core.specs.Numbered.{Grows}
use Rattle.pf_two_sided.specs.Internal.Sides.{opposite}
use Rattle.pf_two_sided.proofs.bfs_level.advance.Given as goal

abbrev pub invariant-level : goal.invariant-level
invariant-level g l = record {
  size : l.level ≡ length l.fn.wave.labels.items;
  within : l.level ≤ length l.wave.labels.items;
  up_to : l.wave.next ≤ l.level;
  explored : (h : g.G.TwoSidedGraph.Graph) → g.G.TwoSidedGraph.explores l.fn.graph h → g.G.TwoSidedGraph.explores l.graph h;
  grown : Grows (g.G.TwoSidedGraph.node_count l.fn.graph l.side) (g.G.TwoSidedGraph.node_count l.graph l.side) (g.G.TwoSidedGraph.stands l.fn.graph l.side) (g.G.TwoSidedGraph.stands l.graph l.side);
  other : (g.G.TwoSidedGraph.node_count l.graph (opposite l.side) ≡ g.G.TwoSidedGraph.node_count l.fn.graph (opposite l.side)) × ((k : ℕ) (x : g.G.TwoSidedGraph.Node) → g.G.TwoSidedGraph.stands l.graph (opposite l.side) k x ↔ g.G.TwoSidedGraph.stands l.fn.graph (opposite l.side) k x);
  wave : IsWave (g.G.TwoSidedGraph.node_count l.graph l.side) l.wave.labels.items l.wave.next;
  search : (h : g.G.TwoSidedGraph.Graph) → g.G.TwoSidedGraph.explores l.fn.graph h → IsHop (g.G.TwoSidedGraph.step h l.side) → (root : ℕ → Bool)
      → IsSearch by_depth (g.G.TwoSidedGraph.step h l.side) root (g.G.TwoSidedGraph.stands l.fn.graph l.side) l.fn.wave.labels.items
      → IsSearch by_depth (g.G.TwoSidedGraph.step h l.side) root (g.G.TwoSidedGraph.stands l.graph l.side) l.wave.labels.items;
  layered : (depth : ℕ) → IsLayered l.fn.wave.labels.items l.fn.wave.next (length l.fn.wave.labels.items) depth → IsLayered l.wave.labels.items l.wave.next (length l.fn.wave.labels.items) depth;
  apart : NoneMeets (g.G.TwoSidedGraph.stands l.fn.graph l.side) (g.G.TwoSidedGraph.stands l.fn.graph (opposite l.side)) → NoneMeets (g.G.TwoSidedGraph.stands l.graph l.side) (g.G.TwoSidedGraph.stands l.graph (opposite l.side));
}

abbrev pub decreases-level : goal.decreases-level
decreases-level g l = l.level - l.wave.next
