use Rattle.pf_base.proofs.Outcomes.{on_ok}
use Rattle.pf_discovery.proofs.tested.TestedByNumberedGraph.expand.Goals as goal

pub expand-requires-clause-inside : goal.expand-requires-clause-inside
expand-requires-clause-inside g c = c.requires.inside

pub expand-requires-clause-graph : goal.expand-requires-clause-graph
expand-requires-clause-graph g c = let r = c.requires.graph in (r.0.graph, r.1.0)

pub returns : goal.returns
returns g c = record {
  grows = c.expand.ensures.grows;
  back = c.expand.ensures.back;
  graph = λ h x. (c.expand.ensures.graph h.graph x.0, x.1);
  listed = on_ok c.expand.result c.expand.ensures.listed (λ n. (n.0, n.1, n.2, n.3, λ h x. n.4 h.graph x.0));
  placed = on_ok c.expand.result c.expand.ensures.placed (λ n. (n.0, n.1, λ h x. n.2 h.graph x.0));
  ordered = on_ok c.expand.result c.expand.ensures.ordered (λ n h x. n h.graph x.0);
  refused = c.expand.ensures.refused;
}
