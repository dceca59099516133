use Rattle.std.proofs.Common.{◌≡◌, ◌+◌, ◌*◌, length, ◌++◌}
use Rattle.pf_matrix.specs.Calls.{CallableInTurn, GivesEach}
use Rattle.pf_matrix.specs.Positions.{positions}
use Rattle.pf_matrix.proofs.matrix.Matrix.from_fn.Given as goal

-- what the calls to come give completes what all calls give
abbrev pub invariant-loop-position : goal.invariant-loop-position
invariant-loop-position g l =
    record {
      callable : CallableInTurn (goal.F-pre g) (goal.F-step g) l.cb l.position-iterator;
      count : length l.values.items + length l.position-iterator ≡ l.rows * l.columns;
      calls : (ys : _) → GivesEach (goal.F-step g) l.cb l.position-iterator ys → GivesEach (goal.F-step g) l.fn.cb (positions l.rows l.columns) (l.values.items ++ ys);
    }
