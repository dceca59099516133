use Rattle.std.proofs.Common.{◌≡◌, ◌∙◌, sym, Some, slice_get}
use Rattle.pf_base.specs.Regions.{along_edges}
use Rattle.pf_base.proofs.ListLemmas.{at_place}
use Rattle.pf_core.proofs.NodeLemmas.{test_at}
use Rattle.pf_discovery.proofs.tested.TestedByGoalGraph.is_goal.Goals as goal

pub passes-requires : goal.passes-requires
passes-requires g c =
    let r = c.requires.graph in
    let at : slice_get (g.M.Numbering.keys c.args.self.now.discovery.nodes) c.args.node ≡ Some c.index-as_slice-node.result = at_place _ _ _ _ c.requires.inside (sym (rw c.as_slice.ensures.keys at c.index-as_slice-node.is)) in
    record { within = (along_edges r.0.graph.starts r.0.graph.edges, r.0.test, r.1.0.reached c.args.node c.index-as_slice-node.result at, r.1.1) }

pub returns-clause-graph : goal.returns-clause-graph
returns-clause-graph g c = λ h x.
    let at : slice_get (g.M.Numbering.keys c.args.self.now.discovery.nodes) c.args.node ≡ Some c.index-as_slice-node.result = at_place _ _ _ _ c.requires.inside (sym (rw c.as_slice.ensures.keys at c.index-as_slice-node.is)) in
    let reach = x.0.reached c.args.node c.index-as_slice-node.result at in
    let region = along_edges h.graph.starts h.graph.edges in (
      (x.0, c.passes.ensures.goes_on region h.test reach x.1),
      λ y s. c.passes.ensures.passed region h.test reach x.1 ∙ test_at g.N.PartialEq.eq _ h.test (g.met.T.NodeTest.alike_law c.args.self.now.success region h.test x.1) (g.M.Numbering.keys c.args.self.now.discovery.nodes) c.args.node c.index-as_slice-node.result y reach at s,
    )
