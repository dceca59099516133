use Rattle.std.proofs.Common.{ℕ, ◌<◌, length}
use Rattle.pf_tables.specs.Graphs.{row_of}
use Rattle.pf_tables.specs.Faults.{IsSoundRow}
use Rattle.pf_tables.proofs.rows.Rows.new.Given as goal

-- the rows so far are sound
abbrev pub invariant-loop-node : goal.invariant-loop-node
invariant-loop-node g l = (n : ℕ) → n < l.node → IsSoundRow g.C.Number.value (length l.rows) (row_of g.R.Row.edges l.rows n)
