use Rattle.std.proofs.Common.{◌≡◌, ◌<◌, ℕ, false, nat_eq, slice_index}
use Rattle.pf_bench.proofs.inputs.puzzle.blank_of.Given as goal

-- no blank so far
abbrev pub invariant-loop-place : goal.invariant-loop-place
invariant-loop-place l = (k : ℕ) → k < l.place → nat_eq (slice_index l.tiles k) 0 ≡ false
