use Rattle.std.proofs.Common.{rules}
use Rattle.pf_grid.proofs.grid.from_coordinates.position_from.Goals as goal

pub returns : goal.returns
returns g c = search rules
