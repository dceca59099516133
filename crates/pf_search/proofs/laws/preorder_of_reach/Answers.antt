use Rattle.std.proofs.Common.{[], length, arith}
use Rattle.pf_base.specs.Orders.{last_nodes}
use Rattle.pf_search.proofs.PreorderLemmas.{walked, given_reachable, whole_reach}
use Rattle.pf_search.proofs.ReachLemmas.{none_more, paths_counted}
use Rattle.pf_search.proofs.laws.preorder_of_reach.Goals as goal

pub returns : goal.returns
returns g c = record {
  reachable = λ next start paths p. given_reachable g.N.PartialEq.eq g.met.N.Eq.laws next start paths p;
  once = λ next start paths p. (walked g.N.PartialEq.eq g.met.N.Eq.laws next start paths p).once;
  whole = λ next start paths p e alike. whole_reach g.N.PartialEq.eq g.met.N.Eq.laws next start alike paths p e;
  at_most = λ next start paths p.
      let eq = g.N.PartialEq.eq in
      let laws = g.met.N.Eq.laws in
      none_more eq laws _ (last_nodes paths) (walked eq laws next start paths p).once (given_reachable eq laws next start paths p) (length paths) (omega (arith, paths_counted eq next start paths [] [] p));
}
