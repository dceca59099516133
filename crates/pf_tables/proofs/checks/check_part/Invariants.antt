use Rattle.std.proofs.Common.{◌≡◌, ℕ, ◌+◌, ◌<◌}
use Rattle.std.specs.Prelude.{Some, slice_get}
use Rattle.pf_tables.specs.Graphs.{part}
use Rattle.pf_tables.specs.Faults.{IsSound}
use Rattle.pf_tables.proofs.checks.check_part.Given as goal

-- the edges so far are sound
abbrev pub invariant-loop-number : goal.invariant-loop-number
invariant-loop-number g l = (k : ℕ) (edge : ℕ × g.row.C.Denot) → l.fn.first + k < l.number → slice_get (part l.fn.first l.fn.end (g.R.Row.edges l.edges)) k ≡ Some edge → IsSound g.C.Number.value l.fn.size edge
