use Rattle.std.proofs.Common.{◌≡◌, ◌++◌, false, not, nat_lt, ◌&&◌}
use Rattle.std.specs.List.{list_any}
use Rattle.pf_grid.specs.GridPositions.{grid_of}
use Rattle.pf_grid.specs.Vertices.{vertices_of, listed}
use Rattle.pf_grid.proofs.grid.Grid.resize.Given as goal

abbrev pub invariant-loop-vertex : goal.invariant-loop-vertex
invariant-loop-vertex g l =
    record {
      all : l.yielded ++ l.vertex-iterator ≡ vertices_of l.fn.self;
      kept : l.resized ≡ grid_of l.width l.height false (listed l.yielded);
      lost : l.lost ≡ list_any (λ p. not (nat_lt p.0 l.width && nat_lt p.1 l.height)) l.yielded;
    }
