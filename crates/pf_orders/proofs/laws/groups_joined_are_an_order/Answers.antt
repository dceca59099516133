use Rattle.pf_orders.proofs.JoinedLemmas.{joined_order}
use Rattle.pf_orders.proofs.laws.groups_joined_are_an_order.Goals as goal

pub returns : goal.returns
returns g c = λ next nodes groups order closed deep all joined. joined_order g.N.PartialEq.eq g.met.N.Eq.laws next nodes closed groups deep all order joined
