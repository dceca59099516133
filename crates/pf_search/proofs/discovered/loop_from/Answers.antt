use Rattle.std.proofs.Common.{ℕ, ◌<◌, length, ap, sym, subst}
use Rattle.pf_core.specs.NodeLaws.{StandsFor-one}
use Rattle.pf_discovery.proofs.LoopWalks.{no_loop, best_loop_answer}
use Rattle.pf_core.proofs.UnitLemmas.{is_hop, begins_all, starts_stand}
use Rattle.pf_core.specs.Hops.{hops_from}
use Rattle.pf_base.proofs.Outcomes.{refused_as}
use Rattle.pf_discovery.proofs.ResultLemmas.{in_some, error_kept}
use Rattle.std.proofs.lemmas.Result.{IfOk-from_err}
use Rattle.pf_search.proofs.discovered.loop_from.Goals as goal

pub fewest_edges_loop-requires-clause-graph : goal.fewest_edges_loop-requires-clause-graph
fewest_edges_loop-requires-clause-graph g c = let r = c.requires.graph in (hops_from r.1 r.0, r.2)

pub fewest_edges_loop-requires-clause-begins : goal.fewest_edges_loop-requires-clause-begins
fewest_edges_loop-requires-clause-begins g c = λ k l. begins_all g.N.PartialEq.eq g.met.N.Eq.laws (g.M.Numbering.keys c.args.graph.now.nodes) k l

pub clones_at-requires-clause-inside : goal.clones_at-requires-clause-inside
clones_at-requires-clause-inside g c = λ k h. subst (λ (n : ℕ). k < n) (ap length (sym c.as_slice.ensures.keys)) ((rw c.in-Some.is at c.in_ok-fewest_edges_loop.ensures.inside) k (rw c.deref.ensures.value at h))

pub returns-in-Some : goal.returns-in-Some
returns-in-Some g c = record {
  best = λ next starts x same.
      let eq = g.N.PartialEq.eq in
      let laws = g.met.N.Eq.laws in
      let begins = starts_stand eq laws starts (g.M.Numbering.keys c.args.graph.now.nodes) same in
      let keys = g.M.Numbering.keys c.fewest_edges_loop.new.graph.nodes in
      let y = c.in_ok-fewest_edges_loop.ensures.graph (hops_from starts next) x in
      let b = rw c.in-Some.is at (c.in_ok-fewest_edges_loop.ensures.best (hops_from starts next) x (is_hop eq starts next)) in
      in_some c.clones_at.result c.map.result c.map.ensures.cases _ _
      (λ path n. best_loop_answer eq laws starts next x.alike _ (λ s. (begins s).1) (λ s. (begins s).0) keys (StandsFor-one eq laws keys y.distinct) c.in-Some.numbers.items path.items b
      (rw c.as_slice.ensures.keys at (rw c.deref.ensures.value at n)))
      c.clones_at.ensures.nodes;
  errors = error_kept c.clones_at.result c.map.result c.map.ensures.cases _ c.clones_at.ensures.refused;
}

pub clones_at-requires-clause-clones : goal.clones_at-requires-clause-clones
clones_at-requires-clause-clones g c = c.requires.clones

pub returns-in-None : goal.returns-in-None
returns-in-None g c = record {
  best = λ next starts x same.
      let eq = g.N.PartialEq.eq in
      let laws = g.met.N.Eq.laws in
      let begins = starts_stand eq laws starts (g.M.Numbering.keys c.args.graph.now.nodes) same in
      no_loop eq laws starts next x.alike _ (λ s. (begins s).1) (λ s. (begins s).0)
      (rw c.in-None.is at (c.in_ok-fewest_edges_loop.ensures.best (hops_from starts next) x (is_hop eq starts next)));
  errors = tt;
}

pub returns-in_err-fewest_edges_loop : goal.returns-in_err-fewest_edges_loop
returns-in_err-fewest_edges_loop g c = record {
  best = λ _ _ _ _. IfOk-from_err _ _ c.from_residual.ensures.0;
  errors = refused_as _ c.from_residual.result c.in_err-fewest_edges_loop.field-0.0 c.from_residual.ensures.1 c.in_err-fewest_edges_loop.ensures.errors;
}
