use Rattle.std.proofs.Common.{rules}
use Rattle.pf_matrix.proofs.matrix.traits.MatrixHash.hash.Goals as goal

pub returns : goal.returns
returns g c = search rules
