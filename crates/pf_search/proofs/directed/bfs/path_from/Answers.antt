use Rattle.std.proofs.Common.{List, Bool}
use Rattle.pf_base.specs.Regions.{along_edges}
use Rattle.pf_core.specs.NodeLaws.{StandsFor-one}
use Rattle.pf_core.specs.Nodes.{TestedGraph}
use Rattle.pf_core.specs.Hops.{hops_from}
use Rattle.pf_core.proofs.WalkLemmas.{no_walk, best_answer}
use Rattle.pf_core.proofs.UnitLemmas.{is_hop, no_next_walk, fewest_of_best, begins_all, starts_stand}
use Rattle.pf_base.proofs.Outcomes.{refused_as}
use Rattle.pf_discovery.proofs.ResultLemmas.{in_some, error_kept}
use Rattle.std.proofs.lemmas.Result.{IfOk-from_err}
use Rattle.pf_search.proofs.directed.bfs.path_from.Goals as goal

-- the graph that these functions answer, with the cost 1 at each edge
abbrev tested : {N : Type 0} → List N → (N → List N) → (N → Bool) → TestedGraph N
tested starts next test = record { graph = hops_from starts next; test = test }

pub fewest_edges_path-requires-clause-graph : goal.fewest_edges_path-requires-clause-graph
fewest_edges_path-requires-clause-graph g c = let r = c.requires.graph in (tested r.1 r.0 r.2, (r.3, r.4))

pub fewest_edges_path-requires-clause-begins : goal.fewest_edges_path-requires-clause-begins
fewest_edges_path-requires-clause-begins g c = λ k l. begins_all g.N.PartialEq.eq g.met.N.Eq.laws c.args.graph.now.discovery.nodes.keys k l

pub nodes_at-requires-clause-inside : goal.nodes_at-requires-clause-inside
nodes_at-requires-clause-inside g c = λ k h. (rw c.in-Some.is at c.in_ok-fewest_edges_path.ensures.inside) k (rw c.deref.ensures.value at h)

pub returns-in-Some : goal.returns-in-Some
returns-in-Some g c = record {
  best = λ next starts test x u same.
      let eq = g.N.PartialEq.eq in
      let laws = g.met.N.Eq.laws in
      let h = tested starts next test in
      let begins = starts_stand eq laws starts c.args.graph.now.discovery.nodes.keys same in
      let keys = c.fewest_edges_path.new.graph.discovery.nodes.keys in
      let y = c.in_ok-fewest_edges_path.ensures.graph h (x, u) in
      let b = rw c.in-Some.is at (c.in_ok-fewest_edges_path.ensures.best h (x, u) (is_hop eq starts next)) in
      in_some c.nodes_at.result c.map.result c.map.ensures.cases _ _
      (λ path n. fewest_of_best eq next starts test path.items b.0
      (best_answer eq laws h.graph x.alike _ (λ s. (begins s).1) (λ s. (begins s).0) test (g.met.T.NodeTest.alike_law c.args.graph.now.success (along_edges starts h.graph.edges) test u) keys (StandsFor-one eq laws keys y.0.distinct) c.in-Some.numbers.items path.items b.0 b.1 (rw c.deref.ensures.value at n)))
      c.nodes_at.ensures.nodes;
  errors = error_kept c.nodes_at.result c.map.result c.map.ensures.cases _ c.nodes_at.ensures.refused;
}

pub nodes_at-requires-clause-clones : goal.nodes_at-requires-clause-clones
nodes_at-requires-clause-clones g c = c.requires.clones

pub returns-in-None : goal.returns-in-None
returns-in-None g c = record {
  best = λ next starts test x u same.
      let eq = g.N.PartialEq.eq in
      let laws = g.met.N.Eq.laws in
      let h = tested starts next test in
      let begins = starts_stand eq laws starts c.args.graph.now.discovery.nodes.keys same in
      let b = rw c.in-None.is at (c.in_ok-fewest_edges_path.ensures.best h (x, u) (is_hop eq starts next)) in
      no_next_walk eq next starts test (no_walk eq laws h.graph x.alike _ (λ s. (begins s).1) (λ s. (begins s).0) test b);
  errors = tt;
}

pub returns-in_err-fewest_edges_path : goal.returns-in_err-fewest_edges_path
returns-in_err-fewest_edges_path g c = record {
  best = λ _ _ _ _ _ _. IfOk-from_err _ _ c.from_residual.ensures.0;
  errors = refused_as _ c.from_residual.result c.in_err-fewest_edges_path.field-0.0 c.from_residual.ensures.1 c.in_err-fewest_edges_path.ensures.errors;
}
