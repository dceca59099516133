use Rattle.std.proofs.Common.{rules}
use Rattle.pf_matrix.proofs.matrix.Matrix.transposed.Goals as goal

pub returns-clause-transposed : goal.returns-clause-transposed
returns-clause-transposed g c = search rules
