use Rattle.std.proofs.Common.{◌≡◌, length}
use Rattle.pf_bench.proofs.inputs.drawn.Given as goal

abbrev pub invariant-loop-place : goal.invariant-loop-place
invariant-loop-place g l = goal.F-IsAlwaysCallable g l.draw × (length l.values.items ≡ l.place)
