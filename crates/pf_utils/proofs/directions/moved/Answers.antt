use Rattle.std.proofs.Common.{rules}
use Rattle.pf_utils.proofs.directions.moved.Goals as goal

pub returns-then-to-size : goal.returns-then-to-size
returns-then-to-size c = search rules
