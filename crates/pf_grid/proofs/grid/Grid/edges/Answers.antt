use Rattle.std.proofs.Common.{rules}
use Rattle.pf_grid.proofs.grid.Grid.edges.Goals as goal

pub returns : goal.returns
returns g c = search rules
