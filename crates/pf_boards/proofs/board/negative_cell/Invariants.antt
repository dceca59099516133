use Rattle.pf_boards.specs.Boards.{IsFromZeroTo}
use Rattle.pf_boards.proofs.board.negative_cell.Given as goal

-- no cell so far costs less than 0
abbrev pub invariant-loop-number : goal.invariant-loop-number
invariant-loop-number g l = IsFromZeroTo g.C.Number.value l.cells l.number
