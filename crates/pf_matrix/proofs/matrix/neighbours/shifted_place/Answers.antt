use Rattle.std.proofs.Common.{rules}
use Rattle.pf_matrix.proofs.matrix.neighbours.shifted_place.Goals as goal

pub returns-in-After-2 : goal.returns-in-After-2
returns-in-After-2 c = search rules
