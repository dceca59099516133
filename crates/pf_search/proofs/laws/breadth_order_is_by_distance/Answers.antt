use Rattle.pf_search.proofs.BreadthLaws.{never_nearer}
use Rattle.pf_search.proofs.laws.breadth_order_is_by_distance.Goals as goal

pub returns : goal.returns
returns g c = λ next start given alike order i j x y l a b far w. never_nearer g.N.PartialEq.eq g.met.N.Eq.laws next start given order alike i j x y l a b far w
