use Rattle.std.proofs.Common.{arith, ◌*◌, length}
use Rattle.pf_boards.proofs.BoardLemmas.{sized_as, not_sized}
use Rattle.pf_boards.proofs.board.Board.new.Goals as goal

pub returns-then-ne : goal.returns-then-ne
returns-then-ne g c = record {
  graph = tt;
  sound = tt;
  fault = not_sized c.checked_mul.result (c.args.rows * c.args.columns) (length c.args.cells.now) c.checked_mul.ensures c.if-ne.ensures (omega arith);
}

pub returns-in-Some : goal.returns-in-Some
returns-in-Some g c = record {
  graph = tt;
  sound = tt;
  fault = (sized_as c.checked_mul.result (c.args.rows * c.args.columns) (length c.args.cells.now) c.checked_mul.ensures c.if-ne.ensures, c.in-Some.ensures.0, c.in-Some.ensures.1);
}

pub invariant_of-result : goal.invariant_of-result
invariant_of-result g c = record {
  sized = sized_as c.checked_mul.result (c.args.rows * c.args.columns) (length c.args.cells.now) c.checked_mul.ensures c.if-ne.ensures;
  from_zero = c.in_default.ensures;
}

pub returns-clause-sound : goal.returns-clause-sound
returns-clause-sound g c = record {
  sized = sized_as c.checked_mul.result (c.args.rows * c.args.columns) (length c.args.cells.now) c.checked_mul.ensures c.if-ne.ensures;
  from_zero = c.in_default.ensures;
}
