use Rattle.std.proofs.Common.{refl, ◌∙◌, sym, arith, None}
use Rattle.pf_table_functions.specs.Internal.Edges.{places_at}
use Rattle.pf_table_functions.proofs.PlaceLemmas.{at_place, node_with_place, none_left, passes, place_of_node, present_from, shorter, shortens, stands_still, yields}
use Rattle.pf_table_functions.proofs.edges.EdgesIterator.next.Goals as goal

pub loop-self-init : goal.loop-self-init
loop-self-init g c = record { same = (refl, refl, refl); within = c.self.invariant.0; all = c.self.invariant.1; left = refl }

pub invariant_of-self : goal.invariant_of-self
invariant_of-self g c = (c.loop-self.invariant.within, c.loop-self.invariant.all)

pub edge-edge-requires-clause-node : goal.edge-edge-requires-clause-node
edge-edge-requires-clause-node g c =
    let s = c.loop-self.self-inside in
    node_with_place (g.G.Graph.size s.graph.now) s.node (g.G.Graph.places s.graph.now) s.next s.end c.loop-self-test.true c.loop-self.invariant.all

pub edge-edge-requires-clause-place : goal.edge-edge-requires-clause-place
edge-edge-requires-clause-place g c =
    let s = c.loop-self.self-inside in
    place_of_node (g.G.Graph.size s.graph.now) s.node (g.G.Graph.places s.graph.now) s.next s.end c.loop-self-test.true c.loop-self.invariant.all

pub invariant_of-self-then-is_some : goal.invariant_of-self-then-is_some
invariant_of-self-then-is_some g c = (omega (arith, c.loop-self-test.true), c.loop-self.invariant.all)

pub returns-then-is_some : goal.returns-then-is_some
returns-then-is_some g c =
    let s = c.loop-self.self-inside in
    let size = g.G.Graph.size s.graph.now in
    let places = g.G.Graph.places s.graph.now in
    let edge = c.edge-edge.result in
    let inv = c.loop-self.invariant in
    let first = present_from (places_at size places s.node) s.next edge (at_place size s.node places s.next edge (omega (arith, inv.all, c.loop-self-test.true)) c.edge-edge.ensures) in
    record {
      steps = yields edge _ _ (sym (c.is_some.ensures) ∙ c.if-is_some.true) (sym c.self.view_is ∙ sym inv.left ∙ first);
      goes = shortens edge _ _ (sym (c.is_some.ensures) ∙ c.if-is_some.true) tt (sym c.self.view_is ∙ sym inv.left ∙ first);
    }

pub loop-self-smaller : goal.loop-self-smaller
loop-self-smaller g c = shorter c.loop-self.self-inside.next c.loop-self.self-inside.end c.loop-self-test.true

pub loop-self-preserved : goal.loop-self-preserved
loop-self-preserved g c =
    let s = c.loop-self.self-inside in
    let size = g.G.Graph.size s.graph.now in
    let places = g.G.Graph.places s.graph.now in
    let edge = c.edge-edge.result in
    let inv = c.loop-self.invariant in
    let first = present_from (places_at size places s.node) s.next edge (at_place size s.node places s.next edge (omega (arith, inv.all, c.loop-self-test.true)) c.edge-edge.ensures) in
    record { same = inv.same; within = omega arith; all = inv.all; left = passes edge _ _ (sym (c.is_some.ensures) ∙ c.if-is_some.false) first ∙ inv.left }

pub returns : goal.returns
returns g c = record {
  steps =
      let s = c.loop-self.self-inside in
      let inv = c.loop-self.invariant in
      none_left (places_at (g.G.Graph.size s.graph.now) (g.G.Graph.places s.graph.now) s.node) s.next s.end c.loop-self-test.false inv.all (inv.left ∙ c.self.view_is);
  goes = stands_still None refl;
}
