use Rattle.std.proofs.Common.{◌≡◌, ◌∙◌, Err, ap, length, ◌≤◌, refl, inl, ℕ, ◌<◌, subst, sym}
use Rattle.std.proofs.lemmas.Option.{MatchOption-at_some}
use Rattle.pf_core.specs.NodeLaws.{StandsFor-one}
use Rattle.pf_core.proofs.UnitLemmas.{begins_all}
use Rattle.pf_informed.specs.Internal.Chains.{before_in}
use Rattle.pf_informed.proofs.BagLemmas.{all_paths}
use Rattle.pf_base.proofs.Outcomes.{if_refused, no_overflow, ok_is_no_error, overflow_kept, refused_as}
use Rattle.pf_informed.proofs.Bounds.{at_most_equal}
use Rattle.pf_informed.proofs.LedLemmas.{graph_of, with_test}
use Rattle.pf_informed.proofs.directed.astar_bag.find_ways.Goals as goal

pub label_cheapest-requires-clause-one : goal.label_cheapest-requires-clause-one
label_cheapest-requires-clause-one g c = c.requires.one

pub label_cheapest-requires-clause-new : goal.label_cheapest-requires-clause-new
label_cheapest-requires-clause-new g c = c.requires.new

pub label_cheapest-requires-clause-graph : goal.label_cheapest-requires-clause-graph
label_cheapest-requires-clause-graph g c =
    let r = c.requires.graph in
    (graph_of r.0 r.1, r.2, r.3, r.5)

pub tight_edges-requires-clause-found : goal.tight_edges-requires-clause-found
tight_edges-requires-clause-found g c =
    let w = MatchOption-at_some _ _ c.in-Some.best c.in-Some.is c.in_ok-best.ensures.wide in
    at_most_equal _ _ (ap length c.deref.ensures.value ∙ w.0)

pub tight_edges-requires-clause-graph : goal.tight_edges-requires-clause-graph
tight_edges-requires-clause-graph g c =
    let r = c.requires.graph in
    let v = MatchOption-at_some _ _ c.in-Some.best c.in-Some.is (c.in_ok-best.ensures.labelled r.0 r.1 r.2 r.3 r.4 r.5) in
    (with_test (graph_of r.0 r.1) r.2, (v.0.explores, v.0.tested))

pub tight_edges-requires-clause-someone : goal.tight_edges-requires-clause-someone
tight_edges-requires-clause-someone g c = λ k l.
    let w = MatchOption-at_some _ _ c.in-Some.best c.in-Some.is c.in_ok-best.ensures.wide in
    begins_all g.N.PartialEq.eq g.met.N.Eq.laws (g.M.Numbering.keys c.label_cheapest.new.graph.discovery.nodes) k (subst (λ (n : ℕ). k < n) (ap length c.deref.ensures.value ∙ w.0) l)

pub new-requires-clause-below : goal.new-requires-clause-below
new-requires-clause-below g c = λ k j h.
    let r = c.requires.graph in
    let v = MatchOption-at_some _ _ c.in-Some.best c.in-Some.is (c.in_ok-best.ensures.labelled r.0 r.1 r.2 r.3 r.4 r.5) in
    let t = (c.in_ok-tight.ensures.tight (with_test (graph_of r.0 r.1) r.2) (v.0.explores, v.0.tested)).1 in
    subst (λ (n : ℕ). j < n) (sym c.in_ok-tight.ensures.wide) (t.below k j h)

pub new-requires-clause-goals : goal.new-requires-clause-goals
new-requires-clause-goals g c = λ j h.
    let r = c.requires.graph in
    let v = MatchOption-at_some _ _ c.in-Some.best c.in-Some.is (c.in_ok-best.ensures.labelled r.0 r.1 r.2 r.3 r.4 r.5) in
    let t = (c.in_ok-tight.ensures.tight (with_test (graph_of r.0 r.1) r.2) (v.0.explores, v.0.tested)).1 in
    subst (λ (n : ℕ). j < n) (sym c.in_ok-tight.ensures.wide) (t.goals_below j (rw c.deref-2.ensures.value at h))

pub returns : goal.returns
returns g c = record {
  all = λ start edges test least b d.
      let eq = g.N.PartialEq.eq in
      let laws = g.met.N.Eq.laws in
      let v = MatchOption-at_some _ _ c.in-Some.best c.in-Some.is (c.in_ok-best.ensures.labelled start edges test least b d) in
      let wide = MatchOption-at_some _ _ c.in-Some.best c.in-Some.is c.in_ok-best.ensures.wide in
      let told = c.in_ok-tight.ensures.tight (with_test (graph_of start edges) test) (v.0.explores, v.0.tested) in
      let x = told.0.0 in
      let before = g.M.Numbering.keys c.label_cheapest.new.graph.discovery.nodes in
      let keys = g.M.Numbering.keys c.tight_edges.new.graph.discovery.nodes in
      let grow = c.in_ok-tight.ensures.grows in
      let labels = c.label_cheapest.new.search.labels.items in
      let enough : length labels ≤ length keys = subst (λ (n : ℕ). n ≤ length keys) (sym wide.0) grow.more in
      let tight = rw c.deref.ensures.value at told.1 in
      let same : length c.in_ok-tight.tight.before ≡ length labels = c.in_ok-tight.ensures.wide ∙ ap length c.deref.ensures.value in
      let e = c.in_ok-ways.ensures in
      rw (e.before, e.left, same, c.deref-2.ensures.value)
      (all_paths eq laws start edges test v.0.explores.alike v.0.costs g.C.Number.value before keys (length before) (length keys) grow (StandsFor-one eq laws keys x.distinct) labels enough (g.C.Number.value c.in-Some.best) v.1
      c.in_ok-tight.tight.goals.items (before_in c.in_ok-tight.tight.before) tight);
  ways =
      let e = c.in_ok-ways.ensures in
      let w = MatchOption-at_some _ _ c.in-Some.best c.in-Some.is c.in_ok-best.ensures.wide in
      (rw e.before e.ways, subst (λ (n : ℕ). n ≤ length (g.M.Numbering.keys c.tight_edges.new.graph.discovery.nodes)) (sym (ap length e.before ∙ c.in_ok-tight.ensures.wide ∙ ap length c.deref.ensures.value ∙ w.0)) c.in_ok-tight.ensures.grows.more);
  overflow = λ start edges test least b d e. absurd (ok_is_no_error _ _ _ refl e);
  errors = tt;
}

pub returns-in_default : goal.returns-in_default
returns-in_default g c = record {
  all = λ start edges test least b d. rw c.in_default.is at (c.in_ok-best.ensures.labelled start edges test least b d);
  ways = tt;
  overflow = λ start edges test least b d e. absurd (ok_is_no_error _ _ _ refl e);
  errors = tt;
}

pub returns-in_err-best : goal.returns-in_err-best
returns-in_err-best g c = record {
  all = λ start edges test least b d. if_refused _ c.from_residual.result _ c.from_residual.ensures.1;
  ways = if_refused _ c.from_residual.result _ c.from_residual.ensures.1;
  overflow = λ start edges test least b d refused. c.in_err-best.ensures.overflow start edges test least b d (ap Err (overflow_kept _ _ c.from_residual.ensures.1 refused));
  errors = refused_as _ c.from_residual.result _ c.from_residual.ensures.1 c.in_err-best.ensures.errors;
}

pub returns-in_err-tight : goal.returns-in_err-tight
returns-in_err-tight g c = record {
  all = λ start edges test least b d. if_refused _ c.from_residual-in_err-tight.result _ c.from_residual-in_err-tight.ensures.1;
  ways = if_refused _ c.from_residual-in_err-tight.result _ c.from_residual-in_err-tight.ensures.1;
  overflow = λ start edges test least b d e. absurd (no_overflow c.from_residual-in_err-tight.result _ c.from_residual-in_err-tight.ensures.1 c.in_err-tight.ensures.refused e);
  errors = refused_as _ c.from_residual-in_err-tight.result _ c.from_residual-in_err-tight.ensures.1 (inl c.in_err-tight.ensures.refused);
}

pub returns-in_err-ways : goal.returns-in_err-ways
returns-in_err-ways g c = record {
  all = λ start edges test least b d. if_refused _ c.from_residual-in_err-ways.result _ c.from_residual-in_err-ways.ensures.1;
  ways = if_refused _ c.from_residual-in_err-ways.result _ c.from_residual-in_err-ways.ensures.1;
  overflow = λ start edges test least b d e. absurd (no_overflow c.from_residual-in_err-ways.result _ c.from_residual-in_err-ways.ensures.1 c.in_err-ways.ensures.refused e);
  errors = refused_as _ c.from_residual-in_err-ways.result _ c.from_residual-in_err-ways.ensures.1 (inl c.in_err-ways.ensures.refused);
}
