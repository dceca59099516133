use Rattle.std.proofs.Common.{◌≡◌, ◌<◌, length}
use Rattle.std.specs.Prelude.{All}
use Rattle.pf_bench.proofs.inputs.board.Board.random.Given as goal

abbrev pub invariant-loop-cell : goal.invariant-loop-cell
invariant-loop-cell l = record {
  count : length l.heights.items ≡ l.cell;
  raised : All (λ h. 0 < h) l.heights.items;
}
