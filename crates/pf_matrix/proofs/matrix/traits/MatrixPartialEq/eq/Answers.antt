use Rattle.std.proofs.Common.{rules}
use Rattle.pf_matrix.proofs.matrix.traits.MatrixPartialEq.eq.Goals as goal

pub returns-then-self-other-2 : goal.returns-then-self-other-2
returns-then-self-other-2 g c = search rules

pub returns-else-self-other-2 : goal.returns-else-self-other-2
returns-else-self-other-2 g c = search rules
