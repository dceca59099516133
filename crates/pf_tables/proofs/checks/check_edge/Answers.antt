use Rattle.std.proofs.Common.{rules}
use Rattle.pf_tables.proofs.checks.check_edge.Goals as goal

pub returns-then-edge-size : goal.returns-then-edge-size
returns-then-edge-size g c = search rules

pub returns-else-is_negative : goal.returns-else-is_negative
returns-else-is_negative g c = search rules
