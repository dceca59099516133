use Rattle.std.proofs.Common.{◌≡◌, List, Some, slice_get, subst}
use Rattle.pf_base.proofs.ListLemmas.{take_get}
use Rattle.pf_core.proofs.ReadLemmas.{cut_long, Grows-cut}
use Rattle.pf_discovery.proofs.discovery.DiscoveryByNumberedGraph.forget.Goals as goal

pub returns-clause-left : goal.returns-clause-left
returns-clause-left g c = cut_long c.args.first (g.M.Numbering.keys c.args.self.now.nodes) (g.M.Numbering.keys c.truncate.new.self) c.requires c.truncate.ensures.keys

pub returns-clause-shrinks : goal.returns-clause-shrinks
returns-clause-shrinks g c = Grows-cut g.N.PartialEq.eq c.args.first (g.M.Numbering.keys c.args.self.now.nodes) (g.M.Numbering.keys c.truncate.new.self) c.requires c.truncate.ensures.keys

pub returns-clause-graph : goal.returns-clause-graph
returns-clause-graph g c = λ h x. record {
  alike = x.alike;
  answered = x.answered;
  distinct = c.truncate.ensures.unique;
  reached = λ k m s. x.reached k m (take_get c.args.first (g.M.Numbering.keys c.args.self.now.nodes) k m (subst (λ (ks : List g.row.N.Denot). slice_get ks k ≡ Some m) c.truncate.ensures.keys s));
}
