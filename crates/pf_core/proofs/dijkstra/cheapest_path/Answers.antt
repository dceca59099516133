use Rattle.std.proofs.Common.{◌≡◌, ◌<◌, ◌∙◌, subst, ℕ, ap, Err, refl, inl, length}
use Rattle.std.specs.Prelude.{◌⊎◌, Option, MatchOption}
use Rattle.std.proofs.lemmas.Result.{IfOk-from_err}
use Rattle.pf_base.specs.declared.error.PathError.TheVariants.{OutOfMemory, CostOverflow}
use Rattle.pf_core.specs.declared.labels.Label.{Label}
use Rattle.pf_core.specs.Labels.{Labels, IsChain, AllSettled, by_cost}
use Rattle.pf_core.specs.Search.{IsLeast}
use Rattle.pf_core.specs.Searched.{HasSearched}
use Rattle.pf_core.specs.Steps.{IsBestNumbered}
use Rattle.pf_base.proofs.Outcomes.{no_overflow, ok_is_no_error, overflow_kept, refused_as}
use Rattle.pf_core.proofs.LabelLemmas.{label_is}
use Rattle.pf_core.proofs.PathLemmas.{tree_climbs}
use Rattle.pf_core.proofs.SearchLemmas.{Grows-refl, best, best_grows, no_goal, one_root, only_root}
use Rattle.pf_core.proofs.SearchedLemmas.{is_least}
use Rattle.pf_core.proofs.dijkstra.cheapest_path.Goals as goal

pub search_to_goal-requires-clause-inside : goal.search_to_goal-requires-clause-inside
search_to_goal-requires-clause-inside g c = c.requires.inside

pub search_to_goal-requires-clause-begins : goal.search_to_goal-requires-clause-begins
search_to_goal-requires-clause-begins g c = c.requires.begins

pub search_to_goal-requires-clause-graph : goal.search_to_goal-requires-clause-graph
search_to_goal-requires-clause-graph g c = c.requires.graph

pub returns-in_err-labels : goal.returns-in_err-labels
returns-in_err-labels g c = record {
  graph = c.in_err-labels.ensures.graph;
  inside = IfOk-from_err _ _ c.from_residual.ensures.0;
  best = λ _ _ _. IfOk-from_err _ _ c.from_residual.ensures.0;
  overflow = λ h x p e. c.in_err-labels.ensures.overflow h x p (ap Err (overflow_kept c.from_residual.result c.in_err-labels.field-0.0 c.from_residual.ensures.1 e));
  ticked = c.in_err-labels.ensures.ticked;
  asked = c.in_err-labels.ensures.asked;
  errors = refused_as (λ e. (e ≡ OutOfMemory) ⊎ (e ≡ CostOverflow)) c.from_residual.result c.in_err-labels.field-0.0 c.from_residual.ensures.1 c.in_err-labels.ensures.errors;
}

pub returns-in-None : goal.returns-in-None
returns-in-None g c = record {
  graph = c.in_ok-labels.ensures.graph;
  inside = tt;
  best = λ h x p.
      let e = c.in_ok-labels.ensures in
      let labels = c.in_ok-labels.labels.items in
      let s = e.searched h x p in
      let root = one_root c.args.start _ _ _ _ e.grows c.requires.inside in
      let all = subst (λ (o : Option ℕ). MatchOption o (AllSettled labels) (λ k. (l : Label g.row.C.Denot) × IsLeast (by_cost g.C.Number.value) labels k l)) c.in-None.is e.least in
      let none = no_goal (by_cost g.C.Number.value) (g.G.NumberedGraph.step h) (only_root c.args.start) p _ labels s.search (g.G.NumberedGraph.passes h) s.passed all in
      λ a is. none a ((root a).1 is);
  overflow = λ _ _ _ e. absurd (ok_is_no_error _ _ _ refl e);
  ticked = c.in_ok-labels.ensures.ticked;
  asked = c.in_ok-labels.ensures.asked;
  errors = tt;
}

pub path_to-requires : goal.path_to-requires
path_to-requires g c =
    let e = c.in_ok-labels.ensures in
    let labels = c.in_ok-labels.labels.items in
    let z = is_least g.C.Number.value labels _ c.in-Some.number c.in-Some.is e.least in
    rw c.deref.ensures.value (tree_climbs labels e.tree c.in-Some.number (z.0, z.1.at))

pub label_of-label-requires : goal.label_of-label-requires
label_of-label-requires g c =
    let labels = c.in_ok-labels.labels.items in
    let z = is_least g.C.Number.value labels _ c.in-Some.number c.in-Some.is c.in_ok-labels.ensures.least in
    (z.0, z.1.at)

pub returns-in_err-numbers-in-Some : goal.returns-in_err-numbers-in-Some
returns-in_err-numbers-in-Some g c = record {
  graph = c.in_ok-labels.ensures.graph;
  inside = IfOk-from_err _ _ c.from_residual-in_err-numbers-in-Some.ensures.0;
  best = λ _ _ _. IfOk-from_err _ _ c.from_residual-in_err-numbers-in-Some.ensures.0;
  overflow = λ _ _ _ e. absurd (no_overflow c.from_residual-in_err-numbers-in-Some.result c.in_err-numbers-in-Some.field-0.0 c.from_residual-in_err-numbers-in-Some.ensures.1 c.in_err-numbers-in-Some.ensures.refused e);
  ticked = c.in_ok-labels.ensures.ticked;
  asked = c.in_ok-labels.ensures.asked;
  errors = refused_as (λ e. (e ≡ OutOfMemory) ⊎ (e ≡ CostOverflow)) c.from_residual-in_err-numbers-in-Some.result c.in_err-numbers-in-Some.field-0.0 c.from_residual-in_err-numbers-in-Some.ensures.1 (inl c.in_err-numbers-in-Some.ensures.refused);
}

pub returns : goal.returns
returns g c = record {
  graph = c.in_ok-labels.ensures.graph;
  inside = λ k h. subst (λ (n : ℕ). k < n) (ap length c.deref.ensures.value ∙ c.in_ok-labels.ensures.wide) (c.in_ok-numbers-in-Some.ensures.inside k h);
  best = λ h x p.
      let e = c.in_ok-labels.ensures in
      let labels = c.in_ok-labels.labels.items in
      let number = c.in-Some.number in
      let s = subst (HasSearched g.C.Number.value (g.G.NumberedGraph.step h) (g.G.NumberedGraph.passes h) _ labels c.args.start) c.in-Some.is (e.searched h x p) in
      let z = is_least g.C.Number.value labels _ c.in-Some.number c.in-Some.is e.least in
      let numbers = c.in_ok-numbers-in-Some.numbers.items in
      let chain = subst (λ (xs : Labels g.row.C.Denot). IsChain xs number numbers) c.deref.ensures.value c.in_ok-numbers-in-Some.ensures.chain in
      let same : z.0 ≡ c.label_of-label.result = label_is labels number z.0 c.label_of-label.result z.1.at c.label_of-label.ensures in
      subst (λ (l : Label g.row.C.Denot). IsBestNumbered (g.G.NumberedGraph.step h) (g.G.NumberedGraph.passes h) (g.G.NumberedGraph.stands c.args.graph.now c.args.start) (g.G.NumberedGraph.stands c.search_to_goal.new.graph) numbers (g.C.Number.value l.cost)) same
      (best_grows (g.G.NumberedGraph.step h) (g.G.NumberedGraph.passes h) _ _ (one_root c.args.start _ _ _ _ e.grows c.requires.inside) _ _ _ _ (Grows-refl (g.G.NumberedGraph.node_count c.search_to_goal.new.graph) (g.G.NumberedGraph.stands c.search_to_goal.new.graph)) numbers (g.C.Number.value z.0.cost)
      (best (by_cost g.C.Number.value) (g.G.NumberedGraph.step h) (only_root c.args.start) p _ labels s.search e.tree number z.0 z.1 (g.G.NumberedGraph.passes h) s.passed numbers chain s.found));
  overflow = λ _ _ _ e. absurd (ok_is_no_error _ _ _ refl e);
  ticked = c.in_ok-labels.ensures.ticked;
  asked = c.in_ok-labels.ensures.asked;
  errors = tt;
}
