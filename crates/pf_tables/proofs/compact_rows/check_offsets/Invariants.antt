use Rattle.pf_tables.specs.Offsets.{IsRisingTo}
use Rattle.pf_tables.proofs.compact_rows.check_offsets.Given as goal

abbrev pub invariant-loop-node : goal.invariant-loop-node
invariant-loop-node l = IsRisingTo l.offsets l.node
