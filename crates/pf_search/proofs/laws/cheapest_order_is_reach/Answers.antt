use Rattle.pf_search.proofs.ReachLemmas.{given_reached, given_once, given_at_most}
use Rattle.pf_search.proofs.laws.cheapest_order_is_reach.Goals as goal

pub returns : goal.returns
returns g c = record {
  reached = λ edges start walk w. given_reached g.N.PartialEq.eq g.met.N.Eq.laws g.C.Number.value _ edges start walk w;
  once = λ edges start walk w. given_once g.N.PartialEq.eq g.met.N.Eq.laws g.C.Number.value _ edges start walk w;
  at_most = λ edges start walk w. given_at_most g.N.PartialEq.eq g.met.N.Eq.laws g.C.Number.value _ edges start walk w;
}
