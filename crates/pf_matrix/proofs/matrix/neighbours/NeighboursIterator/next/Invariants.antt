use Rattle.std.proofs.Common.{◌≡◌, ◌<◌, ◌≤◌, ◌-◌, drop}
use Rattle.std.specs.List.{filter_map}
use Rattle.pf_matrix.specs.Positions.{neighbour_at, around}
use Rattle.pf_matrix.proofs.matrix.neighbours.NeighboursIterator.next.Given as goal

-- the shifts so far lead nowhere
abbrev pub invariant-loop-self : goal.invariant-loop-self
invariant-loop-self l =
    let s = l.self-inside in
    let t = l.initial.self-inside in
    record {
      next : s.next ≤ 8;
      row : s.next < 8 → s.position.0 < s.rows;
      column : s.next < 8 → s.position.1 < s.columns;
      left : filter_map (neighbour_at s.rows s.columns s.position.0 s.position.1 s.diagonals) (drop s.next around) ≡ filter_map (neighbour_at t.rows t.columns t.position.0 t.position.1 t.diagonals) (drop t.next around);
    }

abbrev pub decreases-loop-self : goal.decreases-loop-self
decreases-loop-self l = 8 - l.self-inside.next
