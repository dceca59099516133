use Rattle.std.proofs.Common.{rules}
use Rattle.pf_matrix.proofs.matrix.Matrix.idx.Goals as goal

pub returns-clause-place : goal.returns-clause-place
returns-clause-place g c = search rules
