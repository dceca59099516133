use Rattle.std.proofs.Common.{ℕ, ◌<◌, Contains, refl, subst, sym, ◌∙◌}
use Rattle.std.proofs.lemmas.Result.{IfOk-from_err}
use Rattle.std.specs.List.{AllZip}
use Rattle.pf_discovery.proofs.DepthFirstLemmas.{ends_stand, end_of_step}
use Rattle.pf_core.proofs.SearchLemmas.{Grows-back}
use Rattle.pf_base.proofs.Outcomes.{on_err, refused_as}
use Rattle.pf_core.proofs.ReadLemmas.{within_found}
use Rattle.pf_discovery.proofs.depth_first.DepthFirst.visit.Goals as goal

pub expand-requires-clause-inside : goal.expand-requires-clause-inside
expand-requires-clause-inside g c = c.requires.inside

pub expand-requires-clause-graph : goal.expand-requires-clause-graph
expand-requires-clause-graph g c = c.requires.graph

pub returns-in_err-expand : goal.returns-in_err-expand
returns-in_err-expand g c = record {
  grows = c.expand.ensures.grows;
  graph = c.expand.ensures.graph;
  given = IfOk-from_err _ _ c.from_residual.ensures.0;
  few = IfOk-from_err _ _ c.from_residual.ensures.0;
  visited = IfOk-from_err _ _ c.from_residual.ensures.0;
  path = IfOk-from_err _ _ c.from_residual.ensures.0;
  waiting = IfOk-from_err _ _ c.from_residual.ensures.0;
  ordered = IfOk-from_err _ _ c.from_residual.ensures.0;
  kept = on_err c.from_residual.result (refl, refl, refl, (λ k. (λ h. h, λ h. h)), c.in_err-expand.ensures.refused.1);
  refused = refused_as _ c.from_residual.result c.in_err-expand.field-0.0 c.from_residual.ensures.1 c.in_err-expand.ensures.refused.0;
}

pub note-requires-clause-inside : goal.note-requires-clause-inside
note-requires-clause-inside g c = within_found _ _ _ _ c.requires.inside c.in_ok-expand.ensures.grows.more c.node_count-found.ensures

pub note-requires-clause-depth : goal.note-requires-clause-depth
note-requires-clause-depth g c = c.requires.depth

pub returns-in-Err : goal.returns-in-Err
returns-in-Err g c = record {
  grows = Grows-back _ _ _ _ _ _ c.in_ok-expand.ensures.grows c.forget.ensures.shrinks (c.forget.ensures.left ∙ c.node_count-first.ensures) (λ k x s. g.met.G.NumberedGraph.inside_law c.args.graph.now k x s);
  graph = λ h x. c.forget.ensures.graph h (c.in_ok-expand.ensures.graph h x);
  given = tt;
  few = tt;
  visited = tt;
  path = tt;
  waiting = tt;
  ordered = tt;
  kept = let k = c.in-Err.ensures.kept in (k.0, k.1, k.2, k.3, c.forget.ensures.left ∙ c.node_count-first.ensures);
  refused = c.in-Err.ensures.refused;
}

pub returns : goal.returns
returns g c = record {
  waiting =
      let p = c.in_ok-expand.ensures.placed in (
        c.expand.new.row.items,
        c.in_default.ensures.waiting,
        λ h e x s. subst (λ ns. AllZip (g.G.NumberedGraph.stands c.expand.new.self) ns (g.G.NumberedGraph.successors h x)) (sym p.1) (ends_stand _ p.0 _ (p.2 h e x s)),
      );
  grows = c.expand.ensures.grows;
  graph = c.expand.ensures.graph;
  given = c.in_default.ensures.given;
  few = c.in_default.ensures.few;
  visited = c.in_default.ensures.visited;
  path = c.in_default.ensures.path;
  ordered = c.in_ok-expand.ensures.ordered;
  kept = tt;
  refused = tt;
}

pub forget-requires : goal.forget-requires
forget-requires g c = subst (λ (n : ℕ). g.G.NumberedGraph.can_forget c.expand.new.self n) (sym c.node_count-first.ensures) c.expand.ensures.back

pub note-requires-clause-ends : goal.note-requires-clause-ends
note-requires-clause-ends g c = λ k h. let p = c.in_ok-expand.ensures.listed in let q = end_of_step p.0 k (subst (λ ns. Contains ns k) p.1 h) in subst (λ n. k < n) (sym c.node_count-found.ensures) (p.2 k q.0 q.1)
