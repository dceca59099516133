use Rattle.std.proofs.Common.{ℕ, ◌-◌, ◌+◌, ◌^◌, length}
use Rattle.pf_two_sided.specs.declared.sides.Side.TheVariants.{Forth, Back}
use Rattle.pf_core.specs.Labels.{by_depth}
use Rattle.pf_core.specs.Steps.{IsHop}
use Rattle.pf_core.specs.Search.{IsSearch}
use Rattle.pf_core.specs.Breadth.{IsWave, IsLayered, below}
use Rattle.pf_two_sided.specs.Internal.Mirrors.{NoneMeets}
use Rattle.pf_core.specs.Numbered.{Grows}
use Rattle.pf_two_sided.proofs.bidirectional.fewest_edges_between.Given as goal

abbrev pub invariant-levels : goal.invariant-levels
invariant-levels g l = record {
  explored : (h : g.G.TwoSidedGraph.Graph) → g.G.TwoSidedGraph.explores l.fn.graph h → g.G.TwoSidedGraph.explores l.graph h;
  grown_forth : Grows (g.G.TwoSidedGraph.node_count l.fn.graph Forth) (g.G.TwoSidedGraph.node_count l.graph Forth) (g.G.TwoSidedGraph.stands l.fn.graph Forth) (g.G.TwoSidedGraph.stands l.graph Forth);
  grown_back : Grows (g.G.TwoSidedGraph.node_count l.fn.graph Back) (g.G.TwoSidedGraph.node_count l.graph Back) (g.G.TwoSidedGraph.stands l.fn.graph Back) (g.G.TwoSidedGraph.stands l.graph Back);
  forth_wave : IsWave (g.G.TwoSidedGraph.node_count l.graph Forth) l.forth.labels.items l.forth.next;
  back_wave : IsWave (g.G.TwoSidedGraph.node_count l.graph Back) l.back.labels.items l.back.next;
  forth_layers : (d : ℕ) × IsLayered l.forth.labels.items l.forth.next (length l.forth.labels.items) d;
  back_layers : (d : ℕ) × IsLayered l.back.labels.items l.back.next (length l.back.labels.items) d;
  forth_search : (h : g.G.TwoSidedGraph.Graph) → g.G.TwoSidedGraph.explores l.fn.graph h → IsHop (g.G.TwoSidedGraph.step h Forth)
      → IsSearch by_depth (g.G.TwoSidedGraph.step h Forth) (below (g.G.TwoSidedGraph.node_count l.fn.graph Forth)) (g.G.TwoSidedGraph.stands l.graph Forth) l.forth.labels.items;
  back_search : (h : g.G.TwoSidedGraph.Graph) → g.G.TwoSidedGraph.explores l.fn.graph h → IsHop (g.G.TwoSidedGraph.step h Back)
      → IsSearch by_depth (g.G.TwoSidedGraph.step h Back) (below (g.G.TwoSidedGraph.node_count l.fn.graph Back)) (g.G.TwoSidedGraph.stands l.graph Back) l.back.labels.items;
  apart : NoneMeets (g.G.TwoSidedGraph.stands l.graph Forth) (g.G.TwoSidedGraph.stands l.graph Back);
}

abbrev pub decreases-levels : goal.decreases-levels
decreases-levels g l = 2 ^ 64 + 2 ^ 64 - (l.forth.next + l.back.next)
