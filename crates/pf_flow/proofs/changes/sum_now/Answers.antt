use Rattle.std.proofs.Common.{◌∙◌}
use Rattle.pf_residual.proofs.ChangeSums.{residual_sum}
use Rattle.pf_residual.proofs.NetworkLemmas.{balanced_of}
use Rattle.pf_flow.proofs.changes.sum_now.Goals as goal

pub returns-in-Some-clause-sum : goal.returns-in-Some-clause-sum
returns-in-Some-clause-sum g c = c.in-Some.ensures ∙ residual_sum (balanced_of c.requires)
