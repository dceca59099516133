use Rattle.std.proofs.Common.{ℕ, ◌<◌, ◌-◌, length}
use Rattle.pf_tables.specs.Graphs.{between}
use Rattle.pf_tables.specs.Faults.{IsSoundRow}
use Rattle.pf_tables.proofs.compact_rows.check_rows.Given as goal

-- the rows so far are sound
abbrev pub invariant-loop-node : goal.invariant-loop-node
invariant-loop-node g l = (n : ℕ) → n < l.node → IsSoundRow g.C.Number.value (length l.offsets - 1) (between l.offsets (g.R.Row.edges l.edges) n)
