use Rattle.std.proofs.Common.{◌≡◌, take}
use Rattle.pf_grid.specs.Vertices.{width_of, height_of}
use Rattle.pf_grid.proofs.grid.from_vertices.sizes_of.Given as goal

abbrev pub invariant-loop-position : goal.invariant-loop-position
invariant-loop-position l =
    record {
      width : l.width ≡ width_of (take l.position-index l.positions);
      height : l.height ≡ height_of (take l.position-index l.positions);
    }
