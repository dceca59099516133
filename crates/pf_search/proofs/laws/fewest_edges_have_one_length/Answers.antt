use Rattle.pf_search.proofs.LawLemmas.{one_length}
use Rattle.pf_search.proofs.laws.fewest_edges_have_one_length.Goals as goal

pub returns : goal.returns
returns g c = λ next starts test one other f o. one_length g.N.PartialEq.eq next starts test one other f o
