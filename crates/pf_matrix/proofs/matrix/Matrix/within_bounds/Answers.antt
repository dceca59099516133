use Rattle.std.proofs.Common.{rules}
use Rattle.pf_matrix.proofs.matrix.Matrix.within_bounds.Goals as goal

pub returns-then-position-self : goal.returns-then-position-self
returns-then-position-self g c = search rules

pub returns-else-position-self : goal.returns-else-position-self
returns-else-position-self g c = search rules
