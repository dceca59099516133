use Rattle.std.proofs.Common.{◌≡◌, ◌*◌, ◌≤◌}
use Rattle.pf_bench.specs.Tiles.{distance_below}
use Rattle.pf_bench.proofs.inputs.puzzle.estimate.Given as goal

abbrev pub invariant-loop-place : goal.invariant-loop-place
invariant-loop-place l = record {
  found : l.sum ≡ distance_below l.tiles l.place;
  low : l.sum ≤ 100 * l.place;
}
