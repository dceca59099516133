use Rattle.std.proofs.Common.{false, ap, sym, subst}
use Rattle.pf_search.specs.Breadth.{BreadthWalk, IsBreadthWalk}
use Rattle.pf_search.specs.Internal.Breadth.{found_or}
use Rattle.pf_search.proofs.BreadthSteps.{marked}
use Rattle.pf_search.proofs.directed.bfs_reach.BfsReachableBy.resume.Goals as goal

pub returns : goal.returns
returns g c = record {
  lowered = ap (λ (v : BreadthWalk g.row.N.Denot g.row.F.Denot). record v { refused = false }) c.self.view_is;
  graph = λ next start w.
      let i = c.self.inside in
      marked g.N.PartialEq.eq g.met.N.Eq.laws _ next start (found_or i.start (g.M.Numbering.keys i.discovery.nodes)) i.given i.refused false i.discovery.source.function (subst (IsBreadthWalk g.N.PartialEq.eq _ next start) (sym c.self.view_is) w);
}
