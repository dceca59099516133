use Rattle.std.proofs.Common.{◌≡◌, ◌+◌, ◌*◌, ◌≤◌}
use Rattle.pf_grid.specs.Vertices.{vertices_from}
use Rattle.pf_grid.proofs.grid.Grid.first_from.Given as goal

-- the places so far are not of vertices
abbrev pub invariant-loop-y : goal.invariant-loop-y
invariant-loop-y g l =
    record {
      inside : l.x ≤ l.self.width;
      same : vertices_from l.self (l.fn.y * l.self.width + l.fn.x) ≡ vertices_from l.self (l.y * l.self.width + l.x);
    }
