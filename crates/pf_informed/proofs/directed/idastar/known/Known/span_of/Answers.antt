use Rattle.std.proofs.Common.{◌≡◌, List, ℕ, length, ◌∙◌, sym, subst, slice_get, Some, ◌<◌, ◌≤◌, inl, inr}
use Rattle.std.specs.Prelude.{◌++◌, ◌+◌, ◌⊎◌}
use Rattle.pf_core.specs.Nodes.{StandsFor}
use Rattle.pf_base.proofs.ListLemmas.{get-append}
use Rattle.pf_core.proofs.SearchLemmas.{Grows-trans}
use Rattle.pf_deepening.specs.Ways.{HasSpan}
use Rattle.pf_informed.specs.Internal.Rows.{IsCheapStep, IsTable}
use Rattle.pf_informed.proofs.KnownLemmas.{table_more, rows_more, rows_grown, cheap_sound, cheap_complete}
use Rattle.pf_informed.proofs.LedLemmas.{with_test, led_grown, led_more}
use Rattle.pf_base.proofs.Outcomes.{if_refused, on_refused, refused_as}
use Rattle.pf_informed.proofs.Bounds.{below_more}
use Rattle.pf_informed.proofs.directed.idastar.known.Known.span_of.Goals as goal

pub is_goal-requires-clause-graph : goal.is_goal-requires-clause-graph
is_goal-requires-clause-graph g c =
    let r = c.requires.graph in
    let k = r.3 in
    (with_test r.0 r.1, (k.led.explores, k.led.tested))

pub returns-then-is_goal : goal.returns-then-is_goal
returns-then-is_goal g c = record {
  more = record {
    whole = record {
      asked = c.requires.whole.asked ∙ sym c.is_goal.ensures.same;
      table = subst (λ (m : ℕ). IsTable m c.args.self.now.rows.steps.items c.args.self.now.rows.spans.items) (sym c.is_goal.ensures.same) c.requires.whole.table;
    };
    grows = c.is_goal.ensures.grows;
    steps = λ i x h. h;
    spans = λ k s h. h;
  };
  kept = tt;
  opened = tt;
  only = λ k s h. inl h;
  graph = λ h test least k.
      let eq = g.N.PartialEq.eq in
      let laws = g.met.N.Eq.laws in
      let value = g.C.Number.value in
      let keys = g.M.Numbering.keys c.args.self.now.graph.discovery.nodes in
      let now = g.M.Numbering.keys c.is_goal.new.self.discovery.nodes in
      let told = c.is_goal.ensures.graph (with_test h test) (k.led.explores, k.led.tested) in
      let grows = c.is_goal.ensures.grows in (
        record {
          led = led_grown k.led laws c.requires.whole.asked c.is_goal.new.self grows told.0.0 told.0.1;
          rows = rows_grown value (IsCheapStep eq h) test (StandsFor eq keys) (StandsFor eq now) (length keys) (length now) c.args.self.now.rows.steps.items c.args.self.now.rows.spans.items grows c.requires.whole.table k.rows;
        },
        λ x s. sym (told.1 x (grows.back c.args.number x c.requires.inside s)) ∙ c.if-is_goal.true,
      );
  refused = tt;
}

pub expand-requires-clause-graph : goal.expand-requires-clause-graph
expand-requires-clause-graph g c =
    let r = c.requires.graph in
    let k = r.3 in
    (with_test r.0 r.1, (c.is_goal.ensures.graph (with_test r.0 r.1) (k.led.explores, k.led.tested)).0)

pub ask-requires-clause-graph : goal.ask-requires-clause-graph
ask-requires-clause-graph g c =
    let r = c.requires.graph in
    let k = r.3 in
    let x = c.in_ok-expand.ensures.graph (with_test r.0 r.1) (c.is_goal.ensures.graph (with_test r.0 r.1) (k.led.explores, k.led.tested)).0 in
    (r.0, r.2, k.led.asked, x.0.reached)

pub returns : goal.returns
returns g c = record {
  more =
      let keys = g.M.Numbering.keys c.args.self.now.graph.discovery.nodes in
      let after = g.M.Numbering.keys c.expand.new.self.discovery.nodes in
      let grows = Grows-trans _ _ _ _ _ _ c.is_goal.ensures.grows c.in_ok-expand.ensures.grows in
      let row = c.in_ok-expand.ensures.listed in
      let e = c.in_ok-span.ensures in
      let kept = subst (λ (xs : List (ℕ × g.row.C.Denot)). c.keep.new.self.steps.items ≡ c.args.self.now.rows.steps.items ++ xs) c.deref.ensures.value e.steps in
      let end = subst (λ (xs : List (ℕ × g.row.C.Denot)). c.in_ok-span.span.end ≡ length c.args.self.now.rows.steps.items + length xs) c.deref.ensures.value e.span.1 in
      record {
        whole = record {
          asked = c.in_ok-ask.ensures.all;
          table = table_more (length keys) (length after) grows.more c.args.self.now.rows.steps.items c.expand.new.row.steps.items c.keep.new.self.steps.items c.args.self.now.rows.spans.items c.keep.new.self.spans.items c.args.number c.in_ok-span.span
              kept e.span.0 end e.from c.requires.whole.table (below_more _ _ _ c.requires.inside grows.more) (λ i j d at. row.2 j d (row.1.from i j d at));
        };
        grows = grows;
        steps = λ i x h. subst (λ (xs : List (ℕ × g.row.C.Denot)). slice_get xs i ≡ Some x) (sym e.steps) (get-append c.args.self.now.rows.steps.items c.deref.result.now i x h);
        spans = λ k s h. e.others k s (λ q. c.requires.unopened s (subst (λ (n : ℕ). HasSpan c.args.self.now.rows.spans.items n s) q h)) h;
      };
  kept = c.in_ok-span.ensures.kept;
  opened = let e = c.in_ok-span.ensures in (e.span.0, e.span.2 ∙ c.node_count-found.ensures);
  only = λ k s h. elim (c.in_ok-span.ensures.from k s h) as (λ _. HasSpan c.args.self.now.rows.spans.items k s ⊎ (k ≡ c.args.number)) [ inl o ↦ inl o | inr q ↦ inr q.0 ];
  graph = λ h test least k.
      let eq = g.N.PartialEq.eq in
      let laws = g.met.N.Eq.laws in
      let value = g.C.Number.value in
      let keys = g.M.Numbering.keys c.args.self.now.graph.discovery.nodes in
      let between = g.M.Numbering.keys c.is_goal.new.self.discovery.nodes in
      let after = g.M.Numbering.keys c.expand.new.self.discovery.nodes in
      let told = c.is_goal.ensures.graph (with_test h test) (k.led.explores, k.led.tested) in
      let x = c.in_ok-expand.ensures.graph (with_test h test) told.0 in
      let grows = Grows-trans _ _ _ _ _ _ c.is_goal.ensures.grows c.in_ok-expand.ensures.grows in
      let a = c.in_ok-ask.ensures.graph h least k.led.asked x.0.reached in
      let row = c.in_ok-expand.ensures.listed in
      let e = c.in_ok-span.ensures in
      let kept = subst (λ (xs : List (ℕ × g.row.C.Denot)). c.keep.new.self.steps.items ≡ c.args.self.now.rows.steps.items ++ xs) c.deref.ensures.value e.steps in
      let end = subst (λ (xs : List (ℕ × g.row.C.Denot)). c.in_ok-span.span.end ≡ length c.args.self.now.rows.steps.items + length xs) c.deref.ensures.value e.span.1 in
      let number = c.args.number in
      let here : (y : g.row.N.Denot) → StandsFor eq after number y → StandsFor eq between number y = λ y s. c.in_ok-expand.ensures.grows.back number y (subst (λ (n : ℕ). number < n) (sym c.is_goal.ensures.same) c.requires.inside) s in (
        record {
          led = led_more (led_grown k.led laws c.requires.whole.asked c.expand.new.self grows x.0 x.1) a.0 a.1;
          rows = rows_more (length keys) (length after) grows.more c.args.self.now.rows.steps.items c.expand.new.row.steps.items c.keep.new.self.steps.items c.args.self.now.rows.spans.items c.keep.new.self.spans.items number c.in_ok-span.span
              kept e.span.0 end e.from c.requires.whole.table value (IsCheapStep eq h) test (StandsFor eq keys) (StandsFor eq after) grows
              (λ y s. sym (told.1 y (c.is_goal.ensures.grows.back number y c.requires.inside (here y s))) ∙ c.if-is_goal.false)
              (λ y s. cheap_sound eq laws value h after y c.expand.new.row.steps.items row.0 c.expand.new.row.places.items row.1 (row.4 (with_test h test) told.0 y (here y s)))
              (λ y s. cheap_complete eq laws value h after y c.expand.new.row.steps.items row.0 c.expand.new.row.places.items row.1 (row.4 (with_test h test) told.0 y (here y s)))
              k.rows;
        },
        tt,
      );
  refused = tt;
}

pub returns-in_err-expand : goal.returns-in_err-expand
returns-in_err-expand g c = record {
  more = on_refused _ c.from_residual.result _ c.from_residual.ensures.1;
  kept = if_refused _ c.from_residual.result _ c.from_residual.ensures.1;
  opened = if_refused _ c.from_residual.result _ c.from_residual.ensures.1;
  only = on_refused _ c.from_residual.result _ c.from_residual.ensures.1;
  graph = λ h test least k. if_refused _ c.from_residual.result _ c.from_residual.ensures.1;
  refused = refused_as _ c.from_residual.result _ c.from_residual.ensures.1 c.in_err-expand.ensures.refused.0;
}

pub returns-in_err-ask : goal.returns-in_err-ask
returns-in_err-ask g c = record {
  more = on_refused _ c.from_residual-in_err-ask.result _ c.from_residual-in_err-ask.ensures.1;
  kept = if_refused _ c.from_residual-in_err-ask.result _ c.from_residual-in_err-ask.ensures.1;
  opened = if_refused _ c.from_residual-in_err-ask.result _ c.from_residual-in_err-ask.ensures.1;
  only = on_refused _ c.from_residual-in_err-ask.result _ c.from_residual-in_err-ask.ensures.1;
  graph = λ h test least k. if_refused _ c.from_residual-in_err-ask.result _ c.from_residual-in_err-ask.ensures.1;
  refused = refused_as _ c.from_residual-in_err-ask.result _ c.from_residual-in_err-ask.ensures.1 c.in_err-ask.ensures.refused;
}

pub returns-in_err-span : goal.returns-in_err-span
returns-in_err-span g c = record {
  more = on_refused _ c.from_residual-in_err-span.result _ c.from_residual-in_err-span.ensures.1;
  kept = if_refused _ c.from_residual-in_err-span.result _ c.from_residual-in_err-span.ensures.1;
  opened = if_refused _ c.from_residual-in_err-span.result _ c.from_residual-in_err-span.ensures.1;
  only = on_refused _ c.from_residual-in_err-span.result _ c.from_residual-in_err-span.ensures.1;
  graph = λ h test least k. if_refused _ c.from_residual-in_err-span.result _ c.from_residual-in_err-span.ensures.1;
  refused = refused_as _ c.from_residual-in_err-span.result _ c.from_residual-in_err-span.ensures.1 c.in_err-span.ensures.refused;
}

pub is_goal-requires-clause-inside : goal.is_goal-requires-clause-inside
is_goal-requires-clause-inside g c = c.requires.inside

pub ask-requires-clause-few : goal.ask-requires-clause-few
ask-requires-clause-few g c = subst (λ (n : ℕ). n ≤ length (g.M.Numbering.keys c.expand.new.self.discovery.nodes)) (sym (c.requires.whole.asked ∙ sym c.is_goal.ensures.same)) c.in_ok-expand.ensures.grows.more

pub expand-requires-clause-inside : goal.expand-requires-clause-inside
expand-requires-clause-inside g c = subst (λ (n : ℕ). c.args.number < n) (sym c.is_goal.ensures.same) c.requires.inside
