use Rattle.std.proofs.Common.{rules}
use Rattle.pf_matrix.proofs.matrix.Matrix.rotate_ccw.Goals as goal

pub returns : goal.returns
returns g c = search rules
