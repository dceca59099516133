use Rattle.pf_flow.proofs.CutLemmas.{value_within_cut}
use Rattle.pf_flow.proofs.laws.flow_is_within_cut.Goals as goal

pub returns : goal.returns
returns c = value_within_cut
