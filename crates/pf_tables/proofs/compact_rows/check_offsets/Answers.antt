use Rattle.std.proofs.Common.{rules}
use Rattle.pf_tables.proofs.compact_rows.check_offsets.Goals as goal

pub loop-node-preserved : goal.loop-node-preserved
loop-node-preserved c = search rules
