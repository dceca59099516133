use Rattle.pf_two_sided.specs.Internal.Sides.{by_side}
use Rattle.pf_two_sided.proofs.JoinLemmas.{mirrored, no_walk_between, joined_answer}
use Rattle.pf_core.proofs.UnitLemmas.{is_hop, begins_all, starts_stand}
use Rattle.pf_core.specs.Hops.{hops_from}
use Rattle.pf_base.proofs.Outcomes.{refused_as}
use Rattle.pf_discovery.proofs.ResultLemmas.{in_some, error_kept}
use Rattle.std.proofs.lemmas.Result.{IfOk-from_err}
use Rattle.pf_both_ends.proofs.discovered.fewest_edges_path.Goals as goal

pub fewest_edges_between-requires-clause-graph : goal.fewest_edges_between-requires-clause-graph
fewest_edges_between-requires-clause-graph g c = let r = c.requires.graph in ((hops_from r.2 r.0, hops_from r.3 r.1), (r.4, r.5))

pub fewest_edges_between-requires-clause-begins : goal.fewest_edges_between-requires-clause-begins
fewest_edges_between-requires-clause-begins g c = λ side k l. begins_all g.N.PartialEq.eq g.met.N.Eq.laws (by_side side (g.M.Numbering.keys c.args.graph.now.forth.nodes) (g.M.Numbering.keys c.args.graph.now.back.nodes)) k l

pub returns-in-Some : goal.returns-in-Some
returns-in-Some g c = record {
  best = λ next previous starts ends x y same same' mirror.
      let eq = g.N.PartialEq.eq in
      let laws = g.met.N.Eq.laws in
      let begins = starts_stand eq laws starts (g.M.Numbering.keys c.args.graph.now.forth.nodes) same in
      let finish = starts_stand eq laws ends (g.M.Numbering.keys c.args.graph.now.back.nodes) same' in
      let m = mirrored eq laws next previous starts ends mirror x.alike y.alike _ (λ a. (begins a).1) (λ a. (begins a).0) _ (λ a. (finish a).1) (λ a. (finish a).0) in
      let b = rw c.in-Some.is at (c.in_ok-fewest_edges_between.ensures.best (hops_from starts next, hops_from ends previous) (x, y) (is_hop eq starts next) (is_hop eq ends previous) m) in
      in_some c.nodes_along.result c.map.result c.map.ensures.cases _ _
      (λ path n. rw n.4 (joined_answer eq laws next previous starts ends mirror x.alike y.alike _ (λ a. (begins a).1) (λ a. (begins a).0) _ (λ a. (finish a).1) (λ a. (finish a).0) _ _ _ _ b n.0 n.1 n.2 n.3))
      c.nodes_along.ensures.nodes;
  errors = error_kept c.nodes_along.result c.map.result c.map.ensures.cases _ c.nodes_along.ensures.refused;
}

pub nodes_along-requires-clause-clones : goal.nodes_along-requires-clause-clones
nodes_along-requires-clause-clones g c = c.requires.clones

pub returns-in-None : goal.returns-in-None
returns-in-None g c = record {
  best = λ next previous starts ends x y same same' mirror.
      let eq = g.N.PartialEq.eq in
      let laws = g.met.N.Eq.laws in
      let begins = starts_stand eq laws starts (g.M.Numbering.keys c.args.graph.now.forth.nodes) same in
      let finish = starts_stand eq laws ends (g.M.Numbering.keys c.args.graph.now.back.nodes) same' in
      let m = mirrored eq laws next previous starts ends mirror x.alike y.alike _ (λ a. (begins a).1) (λ a. (begins a).0) _ (λ a. (finish a).1) (λ a. (finish a).0) in
      let b = rw c.in-None.is at (c.in_ok-fewest_edges_between.ensures.best (hops_from starts next, hops_from ends previous) (x, y) (is_hop eq starts next) (is_hop eq ends previous) m) in
      no_walk_between eq laws next previous starts ends mirror x.alike y.alike _ (λ a. (begins a).1) (λ a. (begins a).0) _ (λ a. (finish a).1) (λ a. (finish a).0) b;
  errors = tt;
}

pub returns-in_err-fewest_edges_between : goal.returns-in_err-fewest_edges_between
returns-in_err-fewest_edges_between g c = record {
  best = λ _ _ _ _ _ _ _ _ _. IfOk-from_err _ _ c.from_residual.ensures.0;
  errors = refused_as _ c.from_residual.result c.in_err-fewest_edges_between.field-0.0 c.from_residual.ensures.1 c.in_err-fewest_edges_between.ensures.errors;
}
