use Rattle.std.proofs.Common.{false, ap, subst, sym}
use Rattle.pf_search.specs.DepthWalks.{DepthWalk, IsDepthWalk}
use Rattle.pf_search.proofs.directed.dfs_reach.DfsReachableBy.resume.Goals as goal

pub returns : goal.returns
returns g c = record {
  lowered = ap (λ (v : DepthWalk g.row.N.Denot g.row.F.Denot). record v { refused = false }) c.self.view_is;
  graph = λ next start paths w.
      let v = subst (IsDepthWalk g.N.PartialEq.eq _ next start paths) (sym c.self.view_is) w in
      let s = v.stands in
      record { stands = record { preorder = s.preorder; given = s.given; found = s.found; stack = s.stack }; explores = v.explores };
}
