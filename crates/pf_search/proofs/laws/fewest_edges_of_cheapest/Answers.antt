use Rattle.pf_search.proofs.LawLemmas.{fewest_of_cheapest}
use Rattle.pf_search.proofs.laws.fewest_edges_of_cheapest.Goals as goal

pub returns : goal.returns
returns g c = λ edges starts test fewest cheapest cost f b. fewest_of_cheapest g.N.PartialEq.eq edges starts test fewest cheapest cost f b
