use Rattle.std.proofs.Common.{arith, ◌∙◌}
use Rattle.std.proofs.lemmas.Grind.{common_steps}
use Rattle.pf_search.proofs.DepthWalkLemmas.{as_many, low_bound}
use Rattle.pf_search.proofs.directed.dfs_reach.DfsReachableBy.remaining_nodes_low_bound.Goals as goal

pub returns-clause-left : goal.returns-clause-left
returns-clause-left g c =
    let i = c.self.inside in
    grind (arith, common_steps, as_many i.start (g.M.Numbering.keys i.graph.nodes) i.walk.given c.self.invariant.0)

pub returns-clause-graph : goal.returns-clause-graph
returns-clause-graph g c = λ next start paths h. returns-clause-left g c ∙ low_bound g.N.PartialEq.eq g.met.N.Eq.laws next start paths c.args.self.now h
