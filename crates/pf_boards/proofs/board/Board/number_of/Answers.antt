use Rattle.std.proofs.Common.{refl, arith}
use Rattle.pf_boards.proofs.BoardLemmas.{place_inside}
use Rattle.pf_boards.proofs.board.Board.number_of.Goals as goal

pub overflow_mul-result : goal.overflow_mul-result
overflow_mul-result g c =
    let row = rw (← c.self.view_is) at c.requires.row in
    let column = rw (← c.self.view_is) at c.requires.column in
    omega (arith, place_inside c.self.inside.rows c.self.inside.columns _ c.args.row c.args.column c.self.invariant.sized row column)

pub overflow_add-result : goal.overflow_add-result
overflow_add-result g c =
    let row = rw (← c.self.view_is) at c.requires.row in
    let column = rw (← c.self.view_is) at c.requires.column in
    omega (arith, place_inside c.self.inside.rows c.self.inside.columns _ c.args.row c.args.column c.self.invariant.sized row column)

pub returns : goal.returns
returns g c = record {
  number = rw (← c.self.view_is) refl;
  inside =
      let row = rw (← c.self.view_is) at c.requires.row in
      let column = rw (← c.self.view_is) at c.requires.column in
      rw (← c.self.view_is) (place_inside c.self.inside.rows c.self.inside.columns _ c.args.row c.args.column c.self.invariant.sized row column);
}
