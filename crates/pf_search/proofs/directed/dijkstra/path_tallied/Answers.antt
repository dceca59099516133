use Rattle.std.proofs.Common.{◌≡◌, [], ◌∷◌, List, ℕ, ℤ, Bool, ap, refl, subst, inl}
use Rattle.std.specs.Prelude.{Err, Contains, ◌⊎◌}
use Rattle.std.specs.List.{AllZip}
use Rattle.pf_base.specs.declared.error.PathError.TheVariants.{OutOfMemory, CostOverflow}
use Rattle.pf_core.specs.Nodes.{TestedGraph, StandsFor}
use Rattle.pf_base.specs.Regions.{along_edges}
use Rattle.pf_core.specs.NodeLaws.{StandsFor-one}
use Rattle.pf_core.proofs.WalkLemmas.{all_starts, only_starts, no_negative, no_walk, best_answer, cost_overflows}
use Rattle.pf_core.proofs.NodeLemmas.{at_most}
use Rattle.std.proofs.lemmas.Result.{IfOk-from_err}
use Rattle.pf_base.proofs.Outcomes.{no_overflow, ok_is_no_error, overflow_kept, refused_as}
use Rattle.pf_discovery.proofs.ResultLemmas.{when_some, when_none, if_some}
use Rattle.pf_search.proofs.directed.dijkstra.path_tallied.Goals as goal

-- the graph that these functions answer
abbrev tested : {N : Type 0} → N → (N → List (N × ℤ)) → (N → Bool) → TestedGraph N
tested start edges test = record { graph = record { starts = start ∷ []; edges = edges }; test = test }

pub cheapest_path-requires-clause-begins : goal.cheapest_path-requires-clause-begins
cheapest_path-requires-clause-begins g c = let r = c.requires.graph in (r.1, (r.3.begins r.1).1 (g.met.N.Eq.laws.refl r.1))

pub cheapest_path-requires-clause-graph : goal.cheapest_path-requires-clause-graph
cheapest_path-requires-clause-graph g c = let r = c.requires.graph in (tested r.1 r.0 r.2, (r.3.explores, r.3.tested))

pub nodes_at-requires-clause-inside : goal.nodes_at-requires-clause-inside
nodes_at-requires-clause-inside g c = λ k h. if_some _ _ _ c.in-Some.is c.in_ok-cheapest_path.ensures.inside k (subst (λ (ks : List ℕ). Contains ks k) c.deref.ensures.value h)

pub nodes_at-requires-clause-clones : goal.nodes_at-requires-clause-clones
nodes_at-requires-clause-clones g c = c.requires.clones

pub returns-in-None : goal.returns-in-None
returns-in-None g c = record {
  best = λ edges start test s costs.
      let t = s.tested in
      let eq = g.N.PartialEq.eq in
      let laws = g.met.N.Eq.laws in
      let h = tested start edges test in
      let x = s.explores in
      let b = when_none _ _ _ c.in-None.is (c.in_ok-cheapest_path.ensures.best h (x, t) (no_negative eq laws h.graph x.alike costs)) in
      no_walk eq laws h.graph x.alike _ (all_starts eq start _ s.begins) (only_starts eq start _ s.begins) test b;
  asked = λ edges start test s.
      let h = tested start edges test in
      let y = c.in_ok-cheapest_path.ensures.graph h (s.explores, s.tested) in
      at_most g.N.PartialEq.eq g.met.N.Eq.laws _ (g.M.Numbering.keys c.cheapest_path.new.graph.discovery.nodes) y.0.distinct y.0.reached _ _ c.in_ok-cheapest_path.ensures.asked;
  errors = tt;
  ticked = c.in_ok-cheapest_path.ensures.ticked;
  overflow = λ _ _ _ _ _ e. absurd (ok_is_no_error _ _ _ refl e);
}

pub returns-in_ok-path-in-Some : goal.returns-in_ok-path-in-Some
returns-in_ok-path-in-Some g c = record {
  best = λ edges start test s costs.
      let t = s.tested in
      let eq = g.N.PartialEq.eq in
      let laws = g.met.N.Eq.laws in
      let h = tested start edges test in
      let x = s.explores in
      let keys = g.M.Numbering.keys c.cheapest_path.new.graph.discovery.nodes in
      let y = c.in_ok-cheapest_path.ensures.graph h (x, t) in
      let b = when_some _ _ _ _ c.in-Some.is (c.in_ok-cheapest_path.ensures.best h (x, t) (no_negative eq laws h.graph x.alike costs)) in
      best_answer eq laws h.graph x.alike _ (all_starts eq start _ s.begins) (only_starts eq start _ s.begins) test (g.met.T.NodeTest.alike_law c.args.graph.now.success (along_edges (start ∷ []) edges) test t) keys (StandsFor-one eq laws keys y.0.distinct) c.in-Some.numbers.items c.in_ok-path-in-Some.path.items (g.C.Number.value c.in-Some.cost) b (subst (λ (ks : List ℕ). AllZip (StandsFor eq keys) ks c.in_ok-path-in-Some.path.items) c.deref.ensures.value c.in_ok-path-in-Some.ensures.nodes);
  asked = λ edges start test s.
      let h = tested start edges test in
      let y = c.in_ok-cheapest_path.ensures.graph h (s.explores, s.tested) in
      at_most g.N.PartialEq.eq g.met.N.Eq.laws _ (g.M.Numbering.keys c.cheapest_path.new.graph.discovery.nodes) y.0.distinct y.0.reached _ _ c.in_ok-cheapest_path.ensures.asked;
  errors = tt;
  ticked = c.in_ok-cheapest_path.ensures.ticked;
  overflow = λ _ _ _ _ _ e. absurd (ok_is_no_error _ _ _ refl e);
}

pub returns-in_err-cheapest_path : goal.returns-in_err-cheapest_path
returns-in_err-cheapest_path g c = record {
  overflow = λ edges start test s costs e.
      let t = s.tested in
      let eq = g.N.PartialEq.eq in
      let laws = g.met.N.Eq.laws in
      let h = tested start edges test in
      let x = s.explores in
      let keys = g.M.Numbering.keys c.cheapest_path.new.graph.discovery.nodes in
      let y = c.in_err-cheapest_path.ensures.graph h (x, t) in
      let f : c.in_err-cheapest_path.field-0.0 ≡ CostOverflow = overflow_kept c.from_residual.result c.in_err-cheapest_path.field-0.0 c.from_residual.ensures.1 e in
      let d = c.in_err-cheapest_path.ensures.overflow h (x, t) (no_negative eq laws h.graph x.alike costs) (ap Err f) in
      cost_overflows eq laws h.graph x.alike _ (all_starts eq start _ s.begins) (only_starts eq start _ s.begins) test g.C.Number.fits keys (StandsFor-one eq laws keys y.0.distinct) d;
  asked = λ edges start test s.
      let h = tested start edges test in
      let y = c.in_err-cheapest_path.ensures.graph h (s.explores, s.tested) in
      at_most g.N.PartialEq.eq g.met.N.Eq.laws _ (g.M.Numbering.keys c.cheapest_path.new.graph.discovery.nodes) y.0.distinct y.0.reached _ _ c.in_err-cheapest_path.ensures.asked;
  best = λ _ _ _ _ _. IfOk-from_err _ _ c.from_residual.ensures.0;
  ticked = c.in_err-cheapest_path.ensures.ticked;
  errors = refused_as _ c.from_residual.result c.in_err-cheapest_path.field-0.0 c.from_residual.ensures.1 c.in_err-cheapest_path.ensures.errors;
}

pub returns-in_err-path-in-Some : goal.returns-in_err-path-in-Some
returns-in_err-path-in-Some g c = record {
  asked = λ edges start test s.
      let h = tested start edges test in
      let y = c.in_ok-cheapest_path.ensures.graph h (s.explores, s.tested) in
      at_most g.N.PartialEq.eq g.met.N.Eq.laws _ (g.M.Numbering.keys c.cheapest_path.new.graph.discovery.nodes) y.0.distinct y.0.reached _ _ c.in_ok-cheapest_path.ensures.asked;
  best = λ _ _ _ _ _. IfOk-from_err _ _ c.from_residual-in_err-path-in-Some.ensures.0;
  ticked = c.in_ok-cheapest_path.ensures.ticked;
  errors = refused_as (λ e. (e ≡ OutOfMemory) ⊎ (e ≡ CostOverflow)) c.from_residual-in_err-path-in-Some.result c.in_err-path-in-Some.field-0.0 c.from_residual-in_err-path-in-Some.ensures.1 (inl c.in_err-path-in-Some.ensures.refused);
  overflow = λ _ _ _ _ _ e. absurd (no_overflow c.from_residual-in_err-path-in-Some.result c.in_err-path-in-Some.field-0.0 c.from_residual-in_err-path-in-Some.ensures.1 c.in_err-path-in-Some.ensures.refused e);
}
