use Rattle.std.proofs.Common.{rules}
use Rattle.pf_grid.proofs.grid.steps.shifted.Goals as goal

pub returns-in-Before : goal.returns-in-Before
returns-in-Before c = search rules
