use Rattle.std.proofs.Common.{arith, sym, ◌∙◌, refl, ap, subst, length}
use Rattle.std.specs.Prelude.{◌≤ℤ◌, pos, Some}
use Rattle.std.proofs.lemmas.Option.{slice_get_read}
use Rattle.pf_boards.proofs.BoardLemmas.{one_more_cell}
use Rattle.pf_tables.proofs.Faulty.{some_same}
use Rattle.pf_boards.proofs.board.negative_cell.Goals as goal
use Rattle.pf_boards.proofs.board.negative_cell.Goals.{in_default-via-in-None-1, in_default-via-in-Some+else-is_negative}

pub returns-in-loop-number : goal.returns-in-loop-number
returns-in-loop-number g c = ((c.in-Some.cost, slice_get_read c.args.cells.now (length c.args.cells.now) c.loop-number.number _ refl (omega arith) c.index-cells-number.is ∙ ap Some c.in-Some.is, c.if-is_negative.ensures), c.loop-number.invariant)

pub loop-number-preserved : goal.loop-number-preserved
loop-number-preserved g c = one_more_cell c.args.cells.now c.loop-number.number c.index-cells-number.result (omega arith) c.index-cells-number.is
    (elim c.in_default.branch [
      | in_default-via-in-None-1 w ↦ λ cost e. absurd cc
      | in_default-via-in-Some+else-is_negative w ↦ λ cost e. subst (λ x. pos 0 ≤ℤ g.C.Number.value x) (some_same (sym w.in-Some.is ∙ e)) w.if-is_negative.ensures
    ])
    c.loop-number.invariant

pub returns : goal.returns
returns g c = λ k cost l e. c.loop-number.invariant k cost (omega (arith, l)) e
