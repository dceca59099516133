use Rattle.std.proofs.Common.{◌≡◌, ◌≤◌, ◌-◌, drop, length}
use Rattle.pf_table_functions.specs.Internal.Edges.{present, places_at}
use Rattle.pf_table_functions.proofs.edges.EdgesIterator.next.Given as goal

-- nothing stands at the places so far
abbrev pub invariant-loop-self : goal.invariant-loop-self
invariant-loop-self g l =
    let s = l.self-inside in
    let t = l.initial.self-inside in
    let places = places_at (g.G.Graph.size s.graph.now) (g.G.Graph.places s.graph.now) s.node in
    record {
      same : (s.graph ≡ t.graph) × (s.node ≡ t.node) × (s.end ≡ t.end);
      within : s.next ≤ s.end;
      all : s.end ≡ length places;
      left : present (drop s.next places) ≡ present (drop t.next (places_at (g.G.Graph.size t.graph.now) (g.G.Graph.places t.graph.now) t.node));
    }

abbrev pub decreases-loop-self : goal.decreases-loop-self
decreases-loop-self g l = l.self-inside.end - l.self-inside.next
