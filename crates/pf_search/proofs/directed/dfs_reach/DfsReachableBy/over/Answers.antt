use Rattle.std.proofs.Common.{◌∷◌, [], refl}
use Rattle.pf_search.proofs.DepthWalkLemmas.{begun}
use Rattle.pf_search.proofs.directed.dfs_reach.DfsReachableBy.over.Goals as goal

pub returns-clause-graph : goal.returns-clause-graph
returns-clause-graph g c = λ next a.
    let e = c.new.ensures in
    begun g.N.PartialEq.eq g.met.N.Eq.laws _ next c.args.start _ refl refl e.given e.visited e.path e.waiting (g.met.F.SuccessorFunction.alike_law c.args.successors (c.args.start ∷ []) next a) a
