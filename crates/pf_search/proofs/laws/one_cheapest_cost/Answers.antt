use Rattle.std.proofs.Common.{[], ◌∷◌}
use Rattle.pf_search.proofs.LeastLemmas.{same_cost, one_cost}
use Rattle.pf_search.proofs.laws.one_cheapest_cost.Goals as goal

pub returns : goal.returns
returns g c = record {
  goals = λ edges starts test path other s t p q. same_cost g.N.PartialEq.eq edges starts test path other s t p q;
  node = λ edges start x y s t e p q. one_cost g.N.PartialEq.eq g.met.N.Eq.laws edges (start ∷ []) x y e p.0 q.0 s t p.1 q.1;
}
