use Rattle.std.proofs.Common.{refl, ◌∙◌, ◌<◌, ap, sym, subst, ℕ, ℤ}
use Rattle.std.specs.Prelude.{◌<ℤ◌, ◌≤ℤ◌}
use Rattle.std.specs.Ordering.{is_some_and, is_lt}
use Rattle.pf_core.specs.declared.labels.Label.{Label}
use Rattle.pf_core.proofs.LabelLemmas.{label_is}
use Rattle.pf_base.proofs.Outcomes.{on_ok, on_refused, refused_as}
use Rattle.pf_core.proofs.SearchLemmas.{Grows-trans, Grows-refl}
use Rattle.pf_informed.specs.Internal.Chains.{before_in}
use Rattle.pf_informed.proofs.TightLemmas.{less_of, not_less_of, rows_next, tight_grows, tight_skipped, tight_goal, tight_row, both_ok}
use Rattle.pf_informed.proofs.Bounds.{below_more}
use Rattle.pf_informed.proofs.tight.look.Goals as goal

pub returns-in_default : goal.returns-in_default
returns-in_default g c = record {
  rows = rows_next c.requires.rows;
  tight = λ h x t. tight_skipped _ _ _ _ _ _ c.args.number _ _ t (λ l at. absurd (c.in_default.ensures l at));
  grows = Grows-refl _ _;
  graph = λ h x. x;
  refused = tt;
}

pub returns-then-lt : goal.returns-then-lt
returns-then-lt g c = record {
  rows = rows_next c.requires.rows;
  tight = λ h x t.
      let s = c.in-Some.ensures in
      let o = g.met.C.Number.order_law c.args.best c.in-Some.cost g.met.C.Integral.exact_law in
      let dear = less_of (g.C.Number.value c.args.best) (g.C.Number.value c.in-Some.cost) c.lt.result (c.lt.ensures ∙ ap (is_some_and is_lt) o) c.if-lt.true in
      tight_skipped _ _ _ _ _ _ c.args.number _ _ t (λ l at. subst (λ (z : ℤ). g.C.Number.value c.args.best <ℤ z) (ap g.C.Number.value s.2 ∙ ap (λ (m : Label g.row.C.Denot). g.C.Number.value m.cost) (label_is c.args.labels.now c.args.number s.0 l s.1 at)) dear);
  grows = Grows-refl _ _;
  graph = λ h x. x;
  refused = tt;
}

pub is_goal-requires : goal.is_goal-requires
is_goal-requires g c = record {
  inside = below_more _ _ _ c.requires.inside.0 c.requires.inside.1;
  graph = c.requires.graph;
}

pub returns-in_err-push : goal.returns-in_err-push
returns-in_err-push g c = record {
  grows = c.is_goal.ensures.grows;
  graph = λ h x. (c.is_goal.ensures.graph h x).0;
  rows = on_refused _ c.from_residual.result _ c.from_residual.ensures.1;
  tight = on_refused _ c.from_residual.result _ c.from_residual.ensures.1;
  refused = refused_as _ c.from_residual.result _ c.from_residual.ensures.1 refl;
}

pub returns-then-is_goal : goal.returns-then-is_goal
returns-then-is_goal g c = record {
  rows = rows_next c.requires.rows;
  tight = λ h x t.
      let s = c.in-Some.ensures in
      let o = g.met.C.Number.order_law c.args.best c.in-Some.cost g.met.C.Integral.exact_law in
      let low = not_less_of (g.C.Number.value c.args.best) (g.C.Number.value c.in-Some.cost) c.lt.result (c.lt.ensures ∙ ap (is_some_and is_lt) o) c.if-lt.false in
      let cheap = subst (λ (z : ℤ). z ≤ℤ g.C.Number.value c.args.best) (ap g.C.Number.value s.2) low in
      let told = c.is_goal.ensures.graph h x in
      let grow = c.is_goal.ensures.grows in
      rw c.in_ok-push.ensures.items (tight_goal _ _ _ _ _ _ c.args.number _ _ (tight_grows _ _ _ _ _ _ _ _ _ grow c.requires.inside.1 c.args.number _ _ t) s.0 s.1 cheap
      (λ y at. sym (told.1 y (grow.back c.args.number y (below_more _ _ _ c.requires.inside.0 c.requires.inside.1) at)) ∙ c.if-is_goal.true));
  grows = c.is_goal.ensures.grows;
  graph = λ h x. (c.is_goal.ensures.graph h x).0;
  refused = tt;
}

pub expand-requires-clause-inside : goal.expand-requires-clause-inside
expand-requires-clause-inside g c = subst (λ (n : ℕ). c.args.number < n) (sym c.is_goal.ensures.same) (below_more _ _ _ c.requires.inside.0 c.requires.inside.1)

pub expand-requires-clause-graph : goal.expand-requires-clause-graph
expand-requires-clause-graph g c = let a = c.requires.graph in (a.0, (c.is_goal.ensures.graph a.0 a.1).0)

pub returns-in_err-expand : goal.returns-in_err-expand
returns-in_err-expand g c = record {
  grows = Grows-trans _ _ _ _ _ _ c.is_goal.ensures.grows c.in_err-expand.ensures.grows;
  graph = λ h x. c.in_err-expand.ensures.graph h (c.is_goal.ensures.graph h x).0;
  rows = on_refused _ c.from_residual-in_err-expand.result _ c.from_residual-in_err-expand.ensures.1;
  tight = on_refused _ c.from_residual-in_err-expand.result _ c.from_residual-in_err-expand.ensures.1;
  refused = refused_as _ c.from_residual-in_err-expand.result _ c.from_residual-in_err-expand.ensures.1 c.in_err-expand.ensures.refused.0;
}

pub link_row-requires : goal.link_row-requires
link_row-requires g c = record { rows = c.requires.rows }

pub returns : goal.returns
returns g c = record {
  rows = on_ok c.link_row.result c.link_row.ensures.rows (λ r. rows_next r);
  tight =
      on_ok c.link_row.result (both_ok _ _ c.link_row.result c.link_row.ensures.rows c.link_row.ensures.linked) (λ w h x t.
      let s = c.in-Some.ensures in
      let o = g.met.C.Number.order_law c.args.best c.in-Some.cost g.met.C.Integral.exact_law in
      let low = not_less_of (g.C.Number.value c.args.best) (g.C.Number.value c.in-Some.cost) c.lt.result (c.lt.ensures ∙ ap (is_some_and is_lt) o) c.if-lt.false in
      let cheap = subst (λ (z : ℤ). z ≤ℤ g.C.Number.value c.args.best) (ap g.C.Number.value s.2) low in
      let told = c.is_goal.ensures.graph h x in
      let first = c.is_goal.ensures.grows in
      let second = c.in_ok-expand.ensures.grows in
      let grow = Grows-trans _ _ _ _ _ _ first second in
      let inside : c.args.number < g.G.NumberedGraph.node_count c.args.graph.now = below_more _ _ _ c.requires.inside.0 c.requires.inside.1 in
      let row = c.in_ok-expand.ensures.listed in
      let linked = rw (c.deref.ensures.value, row.1, s.2) at w.1 in
      tight_row _ _ _ _ _ _ c.args.number _ _ (tight_grows _ _ _ _ _ _ _ _ _ grow c.requires.inside.1 c.args.number _ _ t) s.0 s.1 cheap
      (λ y at. sym (told.1 y (grow.back c.args.number y inside at)) ∙ c.if-is_goal.false) row.0
      (λ y at. row.4 h told.0 y (first.stays c.args.number y (grow.back c.args.number y inside at)))
      (let a = c.requires.someone in (a.0, grow.stays c.args.number a.0 a.1)) (before_in c.link_row.new.before) linked (λ j. (w.0.up_to j).once));
  grows = Grows-trans _ _ _ _ _ _ c.is_goal.ensures.grows c.in_ok-expand.ensures.grows;
  graph = λ h x. c.in_ok-expand.ensures.graph h (c.is_goal.ensures.graph h x).0;
  refused = c.link_row.ensures.refused;
}
