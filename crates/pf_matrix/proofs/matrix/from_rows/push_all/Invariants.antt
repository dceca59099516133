use Rattle.std.proofs.Common.{◌≡◌, ◌++◌}
use Rattle.pf_matrix.proofs.matrix.from_rows.push_all.Given as goal

-- the values so far are at the end
abbrev pub invariant-loop-value : goal.invariant-loop-value
invariant-loop-value g l = l.values.items ≡ l.fn.values.items ++ l.yielded
