use Rattle.std.proofs.Common.{length, arith}
use Rattle.pf_search.proofs.BreadthLaws.{given_once, given_in_reach, reach_given}
use Rattle.pf_search.proofs.ReachLemmas.{none_more}
use Rattle.pf_search.proofs.laws.breadth_order_is_reach.Goals as goal

pub returns : goal.returns
returns g c =
    let eq = g.N.PartialEq.eq in
    let laws = g.met.N.Eq.laws in
    record {
      reached = λ next start given alike order x h. given_in_reach eq laws next start given order alike x h;
      once = λ next start given order. given_once eq laws next start given order;
      all = λ next start given alike order end x r. reach_given eq laws next start given order alike end x r;
      at_most = λ next start given alike order. none_more eq laws _ given (given_once eq laws next start given order) (given_in_reach eq laws next start given order alike) (length given) (omega arith);
    }
