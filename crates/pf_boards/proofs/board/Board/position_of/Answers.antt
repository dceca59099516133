use Rattle.std.proofs.Common.{refl, arith, mod-lt}
use Rattle.pf_boards.proofs.BoardLemmas.{some_column, row_inside}
use Rattle.pf_boards.proofs.board.Board.position_of.Goals as goal

pub nonzero_div-result : goal.nonzero_div-result
nonzero_div-result g c = some_column c.self.inside.rows c.self.inside.columns _ c.args.node c.self.invariant.sized c.if-node-self.false

pub nonzero_rem-result : goal.nonzero_rem-result
nonzero_rem-result g c = nonzero_div-result g c

pub returns : goal.returns
returns g c =
    let some = some_column c.self.inside.rows c.self.inside.columns _ c.args.node c.self.invariant.sized c.if-node-self.false in
    record {
      position = rw (← c.self.view_is) (c.if-node-self.false, refl);
      node = rw (← c.self.view_is) (omega arith);
      row = rw (← c.self.view_is) (row_inside c.self.inside.rows c.self.inside.columns _ c.args.node c.self.invariant.sized c.if-node-self.false);
      column = rw (← c.self.view_is) (mod-lt c.args.node some);
    }
