use Rattle.pf_search.proofs.ChainLemmas.{chain_cheapest}
use Rattle.pf_search.proofs.laws.path_of_parents_is_cheapest.Goals as goal

pub returns : goal.returns
returns g c = λ edges start entry x parent cost path alike negative map e chain. chain_cheapest g.N.PartialEq.eq g.met.N.Eq.laws g.C.Number.value edges start alike negative entry map x parent cost path e chain
