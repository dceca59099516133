use Rattle.std.proofs.Common.{◌≡◌, ◌+◌, length, ◌++◌}
use Rattle.std.specs.Vec.Iter.{into_iter_items, into_iter_len}
use Rattle.pf_matrix.specs.Calls.{CallableInTurn, GivesEach}
use Rattle.pf_matrix.proofs.matrix.Matrix.map.Given as goal

-- what the calls to come give completes what all calls give
abbrev pub invariant-loop-value : goal.invariant-loop-value
invariant-loop-value g l =
    record {
      callable : CallableInTurn (goal.F-pre g) (goal.F-step g) l.f (into_iter_items l.value-iterator);
      count : length l.answers.items + length (into_iter_items l.value-iterator) ≡ length l.fn.self.values;
      len : into_iter_len l.value-iterator ≡ length (into_iter_items l.value-iterator);
      calls : (ys : _) → GivesEach (goal.F-step g) l.f (into_iter_items l.value-iterator) ys → GivesEach (goal.F-step g) l.fn.f l.fn.self.values (l.answers.items ++ ys);
    }
