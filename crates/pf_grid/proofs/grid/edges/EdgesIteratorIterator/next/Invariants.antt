use Rattle.std.proofs.Common.{◌≡◌, ◌<◌, ◌≤◌, ◌+◌, ◌*◌, ◌++◌, drop, length}
use Rattle.std.specs.Prelude.{◌∷◌, MatchOption, ⊤}
use Rattle.std.specs.List.{flat_map}
use Rattle.pf_grid.specs.GridPositions.{IsInside}
use Rattle.pf_grid.specs.Steps.{edges_by, forward}
use Rattle.pf_grid.specs.Vertices.{vertices_from}
use Rattle.pf_grid.proofs.grid.edges.EdgesIteratorIterator.next.Given as goal

-- the edges that are left are the one that was found, and those after it
abbrev pub invariant-loop-edge : goal.invariant-loop-edge
invariant-loop-edge g l =
    let s = l.self-inside in
    let t = l.initial.self-inside in
    let left = edges_by s.grid.now s.from (drop s.next forward) ++ flat_map (λ p. edges_by s.grid.now p forward) (vertices_from s.grid.now (s.y * s.grid.now.width + s.x)) in
    record {
      next : s.next ≤ 4;
      inside : s.next < 4 → IsInside s.grid.now s.from;
      wide : s.x ≤ s.grid.now.width;
      found : MatchOption l.edge (l.fn.self ≡ left) (λ e. l.fn.self ≡ e ∷ left);
      here : MatchOption l.edge (s.next ≡ 4) (λ e. ⊤);
    }

abbrev pub decreases-loop-edge : goal.decreases-loop-edge
decreases-loop-edge g l = let s = l.self-inside in length (vertices_from s.grid.now (s.y * s.grid.now.width + s.x))
