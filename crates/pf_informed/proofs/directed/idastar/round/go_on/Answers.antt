use Rattle.std.proofs.Common.{◌≡◌, ◌<◌, ◌+◌, ◌-◌, [], ◌∷◌, ◌++◌, List, ℕ, true, true≢false, length, ap, ◌∙◌, sym, subst, slice_get, inl, inr, Some, ℤ, pos}
use Rattle.std.specs.Prelude.{◌⊎◌, ◌↔◌, ◌+ℤ◌, ◌<ℤ◌, ◌≤ℤ◌, Contains, reverse}
use Rattle.std.proofs.lemmas.List.{length-reverse}
use Rattle.pf_core.specs.NodeLaws.{StandsFor-one}
use Rattle.pf_base.proofs.ListLemmas.{Contains-cases, Contains-reverse, Contains-append_one}
use Rattle.pf_core.proofs.NodeLemmas.{InReach-same}
use Rattle.pf_core.proofs.UnitLemmas.{begins_all}
use Rattle.pf_deepening.specs.declared.rows.Span.{Span}
use Rattle.pf_deepening.specs.declared.way.Frame.{Frame}
use Rattle.pf_deepening.specs.Ways.{HasSpan, IsMarked}
use Rattle.pf_informed.specs.Internal.Deepening.{numbers_of, turns_left, IsStack}
use Rattle.pf_informed.proofs.KnownLemmas.{more_refl}
use Rattle.pf_informed.proofs.EstimateLemmas.{estimate_at}
use Rattle.pf_informed.proofs.NodeWalks.{estimate_is}
use Rattle.pf_informed.proofs.NestLemmas.{stack_entered}
use Rattle.pf_informed.proofs.TurnsLeft.{some_turns, advanced_less, entered_less}
use Rattle.pf_informed.proofs.WayLemmas.{cheap_positive, marked_on, numbers_up, frame_ends, step_at, still_found, part_within, on_way_as, skipped, cost_from_zero, price_from_zero, cut_there, went_on, arrived}
use Rattle.pf_base.proofs.Outcomes.{if_refused, on_refused, refused_as}
use Rattle.pf_informed.proofs.Bounds.{turns_fit, places_fit, place_inside, place_fits}
use Rattle.pf_informed.proofs.directed.idastar.round.go_on.Goals as goal

pub returns-then-is_marked : goal.returns-then-is_marked
returns-then-is_marked g c = record {
  more = more_refl c.requires.whole;
  marked = record { marked = c.requires.marked.marked; inside = c.requires.marked.inside; above = c.requires.marked.above };
  stack = record { nested = c.requires.stack.nested; only = c.requires.stack.only };
  less = advanced_less 18446744073709551616 18446744073709551616 some_turns c.args.way.now.frame (reverse c.args.way.now.trail.items) c.requires.left;
  graph = λ h test least first k w.
      let eq = g.N.PartialEq.eq in
      let laws = g.met.N.Eq.laws in
      let value = g.C.Number.value in
      let fits = g.C.Number.fits in
      let known = c.args.known.now in
      let way = c.args.way.now in
      let keys = g.M.Numbering.keys known.graph.discovery.nodes in
      let steps = known.rows.steps.items in
      let step = c.index-step.result.now in
      let at = step_at eq laws value fits h test least first keys steps known.rows.spans.items k.rows (length keys) c.requires.whole.table way.frame (reverse way.trail.items) way.cut_off.least way.cut_off.past w c.requires.left step (sym c.index-step.ensures) in
      let on : Contains (numbers_of (way.frame ∷ reverse way.trail.items)) step.0 = (c.requires.marked.marked step.0).0 (c.is_marked.ensures.0 c.if-is_marked.true) in
      (k, skipped eq laws value fits h test least first keys steps known.rows.spans.items k.rows way.frame (reverse way.trail.items) way.cut_off.least way.cut_off.past w c.requires.left step.0 step.1 at on);
  refused = tt;
}

pub admit-requires-clause-inside : goal.admit-requires-clause-inside
admit-requires-clause-inside g c =
    let r = c.requires.graph in
    let k = r.4 in
    let known = c.args.known.now in
    let way = c.args.way.now in
    let keys = g.M.Numbering.keys known.graph.discovery.nodes in
    let steps = known.rows.steps.items in
    let step = c.index-step.result.now in
    let at = step_at g.N.PartialEq.eq g.met.N.Eq.laws g.C.Number.value g.C.Number.fits r.0 r.1 r.2 r.3 keys steps known.rows.spans.items k.rows (length keys) c.requires.whole.table way.frame (reverse way.trail.items) way.cut_off.least way.cut_off.past r.5 c.requires.left step (sym c.index-step.ensures) in
    let inside = c.requires.whole.table.inside way.frame.at step.0 step.1 at in
    subst (λ (n : ℕ). step.0 < n) (sym (ap length c.deref.ensures.value ∙ c.requires.whole.asked)) inside

pub admit-requires-clause-cost : goal.admit-requires-clause-cost
admit-requires-clause-cost g c =
    let eq = g.N.PartialEq.eq in
    let laws = g.met.N.Eq.laws in
    let r = c.requires.graph in
    let h = r.0 in
    let k = r.4 in
    let known = c.args.known.now in
    let way = c.args.way.now in
    let keys = g.M.Numbering.keys known.graph.discovery.nodes in
    let steps = known.rows.steps.items in
    let step = c.index-step.result.now in
    let fs = reverse way.trail.items in
    let at = step_at eq laws g.C.Number.value g.C.Number.fits h r.1 r.2 r.3 keys steps known.rows.spans.items k.rows (length keys) c.requires.whole.table way.frame fs way.cut_off.least way.cut_off.past r.5 c.requires.left step (sym c.index-step.ensures) in
    cost_from_zero eq laws g.C.Number.value g.C.Number.fits h r.1 r.2 r.3 keys steps known.rows.spans.items k.rows k.led.explores.alike k.led.admissible (cheap_positive eq h k.led.costs)
    (λ i x s. InReach-same eq laws h.edges h.starts s.0 x (k.led.explores.reached i s.0 s.1) s.2) (StandsFor-one eq laws keys k.led.explores.distinct) way.frame fs way.cut_off.least way.cut_off.past r.5 c.requires.left step.0 step.1 at
    (λ i m. begins_all eq laws keys i (c.requires.marked.inside i m))

pub admit-requires-clause-price : goal.admit-requires-clause-price
admit-requires-clause-price g c =
    let eq = g.N.PartialEq.eq in
    let laws = g.met.N.Eq.laws in
    let r = c.requires.graph in
    let h = r.0 in
    let k = r.4 in
    let known = c.args.known.now in
    let way = c.args.way.now in
    let keys = g.M.Numbering.keys known.graph.discovery.nodes in
    let steps = known.rows.steps.items in
    let step = c.index-step.result.now in
    let fs = reverse way.trail.items in
    let at = step_at eq laws g.C.Number.value g.C.Number.fits h r.1 r.2 r.3 keys steps known.rows.spans.items k.rows (length keys) c.requires.whole.table way.frame fs way.cut_off.least way.cut_off.past r.5 c.requires.left step (sym c.index-step.ensures) in
    price_from_zero eq laws g.C.Number.value g.C.Number.fits h r.1 r.2 r.3 keys steps known.rows.spans.items k.rows k.led.explores.alike k.led.admissible (cheap_positive eq h k.led.costs)
    (λ i x s. InReach-same eq laws h.edges h.starts s.0 x (k.led.explores.reached i s.0 s.1) s.2) (StandsFor-one eq laws keys k.led.explores.distinct) way.frame fs way.cut_off.least way.cut_off.past r.5 c.requires.left step.0 step.1 at
    (λ i m. begins_all eq laws keys i (c.requires.marked.inside i m))

pub admit-requires-clause-estimate : goal.admit-requires-clause-estimate
admit-requires-clause-estimate g c = λ e found.
    let eq = g.N.PartialEq.eq in
    let laws = g.met.N.Eq.laws in
    let value = g.C.Number.value in
    let r = c.requires.graph in
    let h = r.0 in
    let k = r.4 in
    let known = c.args.known.now in
    let way = c.args.way.now in
    let keys = g.M.Numbering.keys known.graph.discovery.nodes in
    let steps = known.rows.steps.items in
    let step = c.index-step.result.now in
    let at = step_at eq laws value g.C.Number.fits h r.1 r.2 r.3 keys steps known.rows.spans.items k.rows (length keys) c.requires.whole.table way.frame (reverse way.trail.items) way.cut_off.least way.cut_off.past r.5 c.requires.left step (sym c.index-step.ensures) in
    let x = begins_all eq laws keys step.0 (c.requires.whole.table.inside way.frame.at step.0 step.1 at) in
    let there : slice_get known.estimates.items step.0 ≡ Some e = subst (λ (es : List g.row.C.Denot). slice_get es step.0 ≡ Some e) c.deref.ensures.value found in
    let is = estimate_is eq laws h k.led.explores.alike value r.2 k.led.same_estimate keys k.led.explores.reached known.estimates.items k.led.estimated c.requires.whole.asked step.0 x.0 e x.1 there in
    let low = k.led.admissible.from_zero x.0 (InReach-same eq laws h.edges h.starts x.1.0 x.0 (k.led.explores.reached step.0 x.1.0 x.1.1) x.1.2) in
    subst (λ (z : ℤ). pos 0 ≤ℤ z) (sym is) low

pub returns-in_default : goal.returns-in_default
returns-in_default g c = record {
  more = more_refl c.requires.whole;
  marked = record {
    marked = c.requires.marked.marked;
    inside = c.requires.marked.inside;
    above = λ n q. elim (c.in_default.ensures.above n q) as (λ _. g.C.Number.value c.args.limit <ℤ g.C.Number.value n) [ inl o ↦ c.requires.marked.above n o | inr l ↦ l ];
  };
  stack = record { nested = c.requires.stack.nested; only = c.requires.stack.only };
  less = advanced_less 18446744073709551616 18446744073709551616 some_turns c.args.way.now.frame (reverse c.args.way.now.trail.items) c.requires.left;
  graph = λ h test least first k w.
      let eq = g.N.PartialEq.eq in
      let laws = g.met.N.Eq.laws in
      let value = g.C.Number.value in
      let fits = g.C.Number.fits in
      let known = c.args.known.now in
      let way = c.args.way.now in
      let keys = g.M.Numbering.keys known.graph.discovery.nodes in
      let steps = known.rows.steps.items in
      let step = c.index-step.result.now in
      let fs = reverse way.trail.items in
      let at = step_at eq laws value fits h test least first keys steps known.rows.spans.items k.rows (length keys) c.requires.whole.table way.frame fs way.cut_off.least way.cut_off.past w c.requires.left step (sym c.index-step.ensures) in
      let fresh : ¬ (Contains (numbers_of (way.frame ∷ fs)) step.0) = λ m. true≢false (sym (c.is_marked.ensures.1 ((c.requires.marked.marked step.0).1 m)) ∙ c.if-is_marked.false) in
      let e = estimate_at known.estimates.items step.0 (subst (λ (n : ℕ). step.0 < n) (sym c.requires.whole.asked) (c.requires.whole.table.inside way.frame.at step.0 step.1 at)) in
      let there : slice_get c.deref.result.now step.0 ≡ Some e.0 = subst (λ (es : List g.row.C.Denot). slice_get es step.0 ≡ Some e.0) (sym c.deref.ensures.value) e.1 in (
        k,
        cut_there eq laws value fits h test least first keys steps known.rows.spans.items k.rows k.led.explores.alike k.led.admissible (cheap_positive eq h k.led.costs)
            (λ i x s. InReach-same eq laws h.edges h.starts s.0 x (k.led.explores.reached i s.0 s.1) s.2) (StandsFor-one eq laws keys k.led.explores.distinct) way.frame fs way.cut_off.least way.cut_off.past w c.requires.left step.0 step.1 at
            (λ i m. begins_all eq laws keys i (c.requires.marked.inside i m)) fresh e.0
            (λ x s. estimate_is eq laws h k.led.explores.alike value least k.led.same_estimate keys k.led.explores.reached known.estimates.items k.led.estimated c.requires.whole.asked step.0 x e.0 s e.1)
            c.admit.new.cut_off.least c.admit.new.cut_off.past c.in_default.ensures.kept (c.in_default.ensures.entered e.0 there)
            (λ q. elim (c.in_default.ensures.past q) as (λ _. (way.cut_off.past ≡ true) ⊎ (¬ (fits (value way.frame.cost +ℤ value step.1 +ℤ value e.0)))) [
              | inl o ↦ inl o
              | inr n ↦ inr (n e.0 there)
            ]),
      );
  refused = tt;
}

pub span_of-requires-clause-inside : goal.span_of-requires-clause-inside
span_of-requires-clause-inside g c =
    let r = c.requires.graph in
    let k = r.4 in
    let known = c.args.known.now in
    let way = c.args.way.now in
    let keys = g.M.Numbering.keys known.graph.discovery.nodes in
    let steps = known.rows.steps.items in
    let step = c.index-step.result.now in
    let at = step_at g.N.PartialEq.eq g.met.N.Eq.laws g.C.Number.value g.C.Number.fits r.0 r.1 r.2 r.3 keys steps known.rows.spans.items k.rows (length keys) c.requires.whole.table way.frame (reverse way.trail.items) way.cut_off.least way.cut_off.past r.5 c.requires.left step (sym c.index-step.ensures) in
    c.requires.whole.table.inside way.frame.at step.0 step.1 at

pub returns-in_ok-enter-in-Some-2 : goal.returns-in_ok-enter-in-Some-2
returns-in_ok-enter-in-Some-2 g c = record {
  more = c.in_ok-span.ensures.more;
  marked =
      let r = c.requires.graph in
      let k = r.4 in
      let known = c.args.known.now in
      let way = c.args.way.now in
      let keys = g.M.Numbering.keys known.graph.discovery.nodes in
      let steps = known.rows.steps.items in
      let step = c.index-step.result.now in
      let fs = reverse way.trail.items in
      let at = step_at g.N.PartialEq.eq g.met.N.Eq.laws g.C.Number.value g.C.Number.fits r.0 r.1 r.2 r.3 keys steps known.rows.spans.items k.rows (length keys) c.requires.whole.table way.frame fs way.cut_off.least way.cut_off.past r.5 c.requires.left step (sym c.index-step.ensures) in
      let inside = c.requires.whole.table.inside way.frame.at step.0 step.1 at in
      let e = c.in_ok-enter-in-Some-2.ensures in
      let frames : numbers_of (c.enter.new.self.frame ∷ reverse c.enter.new.self.trail.items) ≡ step.0 ∷ numbers_of (way.frame ∷ fs) = ap (λ (f : Frame g.row.C.Denot). numbers_of (f ∷ reverse c.enter.new.self.trail.items)) e.frame ∙ ap (λ (xs : List (Frame g.row.C.Denot)). step.0 ∷ numbers_of xs) e.below in
      let grows = c.in_ok-span.ensures.more.grows in
      record {
        marked = subst (λ (ns : List ℕ). (i : ℕ) → IsMarked c.enter.new.self.marks.items i ↔ Contains ns i) (sym frames) (marked_on way.marks.items c.enter.new.self.marks.items (numbers_of (way.frame ∷ fs)) step.0 c.requires.marked.marked e.marked);
        inside = λ i m. elim (Contains-cases (numbers_of (way.frame ∷ fs)) step.0 i (subst (λ (ns : List ℕ). Contains ns i) frames m)) as (λ _. i < length (g.M.Numbering.keys c.span_of.new.self.graph.discovery.nodes)) [
          | inl q ↦ subst (λ (n : ℕ). n < length (g.M.Numbering.keys c.span_of.new.self.graph.discovery.nodes)) q (still_found _ _ _ inside grows.more)
          | inr q ↦ still_found _ _ _ (c.requires.marked.inside i q) grows.more
        ];
        above = λ n q. c.requires.marked.above n (sym c.in-Some.ensures.entered.2 ∙ sym (ap (λ o. o.least) e.cut_off) ∙ q);
      };
  stack =
      let r = c.requires.graph in
      let k = r.4 in
      let known = c.args.known.now in
      let way = c.args.way.now in
      let keys = g.M.Numbering.keys known.graph.discovery.nodes in
      let steps = known.rows.steps.items in
      let spans = known.rows.spans.items in
      let step = c.index-step.result.now in
      let fs = reverse way.trail.items in
      let at = step_at g.N.PartialEq.eq g.met.N.Eq.laws g.C.Number.value g.C.Number.fits r.0 r.1 r.2 r.3 keys steps spans k.rows (length keys) c.requires.whole.table way.frame fs way.cut_off.least way.cut_off.past r.5 c.requires.left step (sym c.index-step.ensures) in
      let inside = c.requires.whole.table.inside way.frame.at step.0 step.1 at in
      let after = c.span_of.new.self in
      let e = c.in_ok-enter-in-Some-2.ensures in
      let s = c.in-Some-2.span in
      let has = rw c.in-Some-2.is at c.in_ok-span.ensures.kept in
      let opened = rw c.in-Some-2.is at c.in_ok-span.ensures.opened in
      let more = c.in_ok-span.ensures.more in
      let frame = c.enter.new.self.frame in
      let number : step.0 ≡ frame.number = sym (ap (λ (f : Frame g.row.C.Denot). f.number) e.frame) in
      let entered = stack_entered steps spans (λ i q h. (c.requires.whole.table.within i q h).0) after.rows.steps.items after.rows.spans.items more.steps more.spans (way.frame ∷ fs) (length keys) (length (g.M.Numbering.keys after.graph.discovery.nodes)) more.grows.more c.requires.whole.table.inside
      (record { nested = c.requires.stack.nested; only = c.requires.stack.only }) frame s (subst (λ (n : ℕ). HasSpan after.rows.spans.items n s) number has) (more.whole.table.within step.0 s has).1 opened.0 opened.1 (subst (λ (n : ℕ). n < length keys) number inside)
      (subst (λ (n : ℕ). (i : ℕ) (t : Span) → HasSpan after.rows.spans.items i t → HasSpan spans i t ⊎ (i ≡ n)) number c.in_ok-span.ensures.only) in
      subst (λ (xs : List (Frame g.row.C.Denot)). IsStack after.rows.steps.items after.rows.spans.items (length (g.M.Numbering.keys after.graph.discovery.nodes)) (frame ∷ xs)) (sym e.below) entered;
  less =
      let way = c.args.way.now in
      let fs = reverse way.trail.items in
      let e = c.in_ok-enter-in-Some-2.ensures in
      let s = c.in-Some-2.span in
      let has = rw c.in-Some-2.is at c.in_ok-span.ensures.kept in
      let within = c.in_ok-span.ensures.more.whole.table.within c.index-step.result.now.0 s has in
      let steps = c.span_of.new.self.rows.steps in
      let shallow : length fs < 18446744073709551616 = turns_fit _ _ _ _ (length-reverse way.trail.items) way.trail.ok way.trail.small in
      let frame : Frame g.row.C.Denot = record { number = c.index-step.result.now.0; cost = c.in-Some.cost; at = s.begin; end = s.end } in
      let short : (frame.end - frame.at) + 1 < 18446744073709551616 = places_fit _ _ _ _ _ within.1 steps.ok steps.small in
      subst (λ (f : Frame g.row.C.Denot). turns_left 18446744073709551616 18446744073709551616 f (reverse c.enter.new.self.trail.items) < turns_left 18446744073709551616 18446744073709551616 way.frame fs) (sym e.frame)
      (subst (λ (xs : List (Frame g.row.C.Denot)). turns_left 18446744073709551616 18446744073709551616 frame xs < turns_left 18446744073709551616 18446744073709551616 way.frame fs) (sym e.below)
      (entered_less 18446744073709551616 18446744073709551616 some_turns way.frame frame fs shallow short));
  graph = λ h test least first k w.
      let eq = g.N.PartialEq.eq in
      let laws = g.met.N.Eq.laws in
      let value = g.C.Number.value in
      let fits = g.C.Number.fits in
      let known = c.args.known.now in
      let way = c.args.way.now in
      let keys = g.M.Numbering.keys known.graph.discovery.nodes in
      let steps = known.rows.steps.items in
      let spans = known.rows.spans.items in
      let step = c.index-step.result.now in
      let fs = reverse way.trail.items in
      let at = step_at eq laws value fits h test least first keys steps spans k.rows (length keys) c.requires.whole.table way.frame fs way.cut_off.least way.cut_off.past w c.requires.left step (sym c.index-step.ensures) in
      let fresh : ¬ (Contains (numbers_of (way.frame ∷ fs)) step.0) = λ m. true≢false (sym (c.is_marked.ensures.1 ((c.requires.marked.marked step.0).1 m)) ∙ c.if-is_marked.false) in
      let after = c.span_of.new.self in
      let told = c.in_ok-span.ensures.graph h test least k in
      let k2 = told.0 in
      let s = c.in-Some-2.span in
      let has = rw c.in-Some-2.is at c.in_ok-span.ensures.kept in
      let within = c.in_ok-span.ensures.more.whole.table.within step.0 s has in
      let e = c.in_ok-enter-in-Some-2.ensures in (
        k2,
        on_way_as eq laws value fits h test least first (g.M.Numbering.keys after.graph.discovery.nodes) after.rows.steps.items after.rows.spans.items k2.rows c.enter.new.self.frame (way.frame ∷ fs) (reverse c.enter.new.self.trail.items) way.cut_off.least c.enter.new.self.cut_off.least way.cut_off.past c.enter.new.self.cut_off.past
            e.below (ap (λ o. o.least) e.cut_off ∙ c.in-Some.ensures.entered.2) (ap (λ o. o.past) e.cut_off ∙ c.in-Some.ensures.entered.3)
            (went_on eq laws value fits h test least first keys steps spans k.rows k.led.explores.alike k.led.admissible (cheap_positive eq h k.led.costs)
            (λ i x t. InReach-same eq laws h.edges h.starts t.0 x (k.led.explores.reached i t.0 t.1) t.2) (StandsFor-one eq laws keys k.led.explores.distinct) way.frame fs way.cut_off.least way.cut_off.past w c.requires.left step.0 step.1 at
            (λ i m. begins_all eq laws keys i (c.requires.marked.inside i m)) fresh (g.M.Numbering.keys after.graph.discovery.nodes) after.rows.steps.items after.rows.spans.items c.in_ok-span.ensures.more.grows c.in_ok-span.ensures.more.steps c.in_ok-span.ensures.more.spans
            k2.rows c.requires.marked.inside c.enter.new.self.frame s has within.0 (ap (λ (f : Frame g.row.C.Denot). f.number) e.frame) (ap (λ (f : Frame g.row.C.Denot). value f.cost) e.frame ∙ c.in-Some.ensures.entered.0) (ap (λ (f : Frame g.row.C.Denot). f.at) e.frame) (ap (λ (f : Frame g.row.C.Denot). f.end) e.frame)),
      );
  refused = tt;
}

pub returns-in_ok-numbers-in-None : goal.returns-in_ok-numbers-in-None
returns-in_ok-numbers-in-None g c = record {
  more = c.in_ok-span.ensures.more;
  marked =
      let r = c.requires.graph in
      let k = r.4 in
      let known = c.args.known.now in
      let way = c.args.way.now in
      let keys = g.M.Numbering.keys known.graph.discovery.nodes in
      let steps = known.rows.steps.items in
      let step = c.index-step.result.now in
      let fs = reverse way.trail.items in
      let at = step_at g.N.PartialEq.eq g.met.N.Eq.laws g.C.Number.value g.C.Number.fits r.0 r.1 r.2 r.3 keys steps known.rows.spans.items k.rows (length keys) c.requires.whole.table way.frame fs way.cut_off.least way.cut_off.past r.5 c.requires.left step (sym c.index-step.ensures) in
      let inside = c.requires.whole.table.inside way.frame.at step.0 step.1 at in
      let grows = c.in_ok-span.ensures.more.grows in
      let numbers : c.in_ok-numbers-in-None.numbers.items ≡ reverse (numbers_of (way.frame ∷ fs)) ++ step.0 ∷ [] = (rw c.deref-in-None.ensures.value at c.in_ok-numbers-in-None.ensures.numbers) ∙ ap (λ (ns : List ℕ). ns ++ step.0 ∷ []) (sym (numbers_up way.frame way.trail.items)) in
      λ i m. elim (Contains-append_one (reverse (numbers_of (way.frame ∷ fs))) step.0 i (subst (λ (ns : List ℕ). Contains ns i) numbers m)) as (λ _. i < length (g.M.Numbering.keys c.span_of.new.self.graph.discovery.nodes)) [
        | inl q ↦ still_found _ _ _ (c.requires.marked.inside i (Contains-reverse (numbers_of (way.frame ∷ fs)) i q)) grows.more
        | inr q ↦ subst (λ (n : ℕ). n < length (g.M.Numbering.keys c.span_of.new.self.graph.discovery.nodes)) q (still_found _ _ _ inside grows.more)
      ];
  stack = tt;
  less = tt;
  graph = λ h test least first k w.
      let eq = g.N.PartialEq.eq in
      let laws = g.met.N.Eq.laws in
      let value = g.C.Number.value in
      let fits = g.C.Number.fits in
      let known = c.args.known.now in
      let way = c.args.way.now in
      let keys = g.M.Numbering.keys known.graph.discovery.nodes in
      let steps = known.rows.steps.items in
      let spans = known.rows.spans.items in
      let step = c.index-step.result.now in
      let fs = reverse way.trail.items in
      let at = step_at eq laws value fits h test least first keys steps spans k.rows (length keys) c.requires.whole.table way.frame fs way.cut_off.least way.cut_off.past w c.requires.left step (sym c.index-step.ensures) in
      let fresh : ¬ (Contains (numbers_of (way.frame ∷ fs)) step.0) = λ m. true≢false (sym (c.is_marked.ensures.1 ((c.requires.marked.marked step.0).1 m)) ∙ c.if-is_marked.false) in
      let after = c.span_of.new.self in
      let told = rw c.in-None.is at (c.in_ok-span.ensures.graph h test least k) in
      let numbers : c.in_ok-numbers-in-None.numbers.items ≡ reverse (numbers_of (way.frame ∷ fs)) ++ step.0 ∷ [] = (rw c.deref-in-None.ensures.value at c.in_ok-numbers-in-None.ensures.numbers) ∙ ap (λ (ns : List ℕ). ns ++ step.0 ∷ []) (sym (numbers_up way.frame way.trail.items)) in
      let e = estimate_at known.estimates.items step.0 (subst (λ (n : ℕ). step.0 < n) (sym c.requires.whole.asked) (c.requires.whole.table.inside way.frame.at step.0 step.1 at)) in
      let there : slice_get c.deref.result.now step.0 ≡ Some e.0 = subst (λ (es : List g.row.C.Denot). slice_get es step.0 ≡ Some e.0) (sym c.deref.ensures.value) e.1 in
      let x = begins_all eq laws keys step.0 (c.requires.whole.table.inside way.frame.at step.0 step.1 at) in
      let is = estimate_is eq laws h k.led.explores.alike value least k.led.same_estimate keys k.led.explores.reached known.estimates.items k.led.estimated c.requires.whole.asked step.0 x.0 e.0 x.1 e.1 in
      let low = k.led.admissible.from_zero x.0 (InReach-same eq laws h.edges h.starts x.1.0 x.0 (k.led.explores.reached step.0 x.1.0 x.1.1) x.1.2) in
      let below = c.in-Some.ensures.entered.1 e.0 there in (
        told.0,
        (
          arrived eq laws value fits h test least first keys steps spans k.rows k.led.explores.alike k.led.admissible (cheap_positive eq h k.led.costs)
              (λ i y t. InReach-same eq laws h.edges h.starts t.0 y (k.led.explores.reached i t.0 t.1) t.2) (StandsFor-one eq laws keys k.led.explores.distinct) way.frame fs way.cut_off.least way.cut_off.past w c.requires.left step.0 step.1 at
              (λ i m. begins_all eq laws keys i (c.requires.marked.inside i m)) fresh (g.M.Numbering.keys after.graph.discovery.nodes) after.rows.steps.items after.rows.spans.items c.in_ok-span.ensures.more.grows c.in_ok-span.ensures.more.steps c.in_ok-span.ensures.more.spans
              told.1 c.in_ok-numbers-in-None.numbers.items numbers (value c.in-Some.cost) c.in-Some.ensures.entered.0,
          part_within _ _ _ _ is low below,
        ),
      );
  refused = tt;
}

pub returns-in_err-span : goal.returns-in_err-span
returns-in_err-span g c = record {
  more = on_refused _ c.from_residual.result _ c.from_residual.ensures.1;
  marked = if_refused _ c.from_residual.result _ c.from_residual.ensures.1;
  stack = if_refused _ c.from_residual.result _ c.from_residual.ensures.1;
  less = if_refused _ c.from_residual.result _ c.from_residual.ensures.1;
  graph = λ h test least first k w. if_refused _ c.from_residual.result _ c.from_residual.ensures.1;
  refused = refused_as _ c.from_residual.result _ c.from_residual.ensures.1 c.in_err-span.ensures.refused;
}

pub returns-in_err-enter-in-Some-2 : goal.returns-in_err-enter-in-Some-2
returns-in_err-enter-in-Some-2 g c = record {
  more = on_refused _ c.from_residual-in_err-enter-in-Some-2.result _ c.from_residual-in_err-enter-in-Some-2.ensures.1;
  marked = if_refused _ c.from_residual-in_err-enter-in-Some-2.result _ c.from_residual-in_err-enter-in-Some-2.ensures.1;
  stack = if_refused _ c.from_residual-in_err-enter-in-Some-2.result _ c.from_residual-in_err-enter-in-Some-2.ensures.1;
  less = if_refused _ c.from_residual-in_err-enter-in-Some-2.result _ c.from_residual-in_err-enter-in-Some-2.ensures.1;
  graph = λ h test least first k w. if_refused _ c.from_residual-in_err-enter-in-Some-2.result _ c.from_residual-in_err-enter-in-Some-2.ensures.1;
  refused = refused_as _ c.from_residual-in_err-enter-in-Some-2.result _ c.from_residual-in_err-enter-in-Some-2.ensures.1 c.in_err-enter-in-Some-2.ensures.refused;
}

pub returns-in_err-numbers-in-None : goal.returns-in_err-numbers-in-None
returns-in_err-numbers-in-None g c = record {
  more = on_refused _ c.from_residual-in_err-numbers-in-None.result _ c.from_residual-in_err-numbers-in-None.ensures.1;
  marked = if_refused _ c.from_residual-in_err-numbers-in-None.result _ c.from_residual-in_err-numbers-in-None.ensures.1;
  stack = if_refused _ c.from_residual-in_err-numbers-in-None.result _ c.from_residual-in_err-numbers-in-None.ensures.1;
  less = if_refused _ c.from_residual-in_err-numbers-in-None.result _ c.from_residual-in_err-numbers-in-None.ensures.1;
  graph = λ h test least first k w. if_refused _ c.from_residual-in_err-numbers-in-None.result _ c.from_residual-in_err-numbers-in-None.ensures.1;
  refused = refused_as _ c.from_residual-in_err-numbers-in-None.result _ c.from_residual-in_err-numbers-in-None.ensures.1 c.in_err-numbers-in-None.ensures.refused;
}

pub span_of-requires-clause-whole : goal.span_of-requires-clause-whole
span_of-requires-clause-whole g c = c.requires.whole

pub span_of-requires-clause-unopened : goal.span_of-requires-clause-unopened
span_of-requires-clause-unopened g c = λ s has. true≢false (sym (c.is_marked.ensures.1 ((c.requires.marked.marked c.index-step.result.now.0).1 (c.requires.stack.only c.index-step.result.now.0 s has))) ∙ c.if-is_marked.false)

pub span_of-requires-clause-graph : goal.span_of-requires-clause-graph
span_of-requires-clause-graph g c = let r = c.requires.graph in (r.0, r.1, r.2, r.4)

pub index-step-requires : goal.index-step-requires
index-step-requires g c =
    let r = c.requires.graph in
    let known = c.args.known.now in
    let way = c.args.way.now in
    let keys = g.M.Numbering.keys known.graph.discovery.nodes in
    let ends = frame_ends g.N.PartialEq.eq g.met.N.Eq.laws g.C.Number.value g.C.Number.fits r.0 r.1 r.2 r.3 keys known.rows.steps.items known.rows.spans.items r.4.rows (length keys) c.requires.whole.table way.frame (reverse way.trail.items) way.cut_off.least way.cut_off.past r.5 in
    place_inside _ _ _ _ c.requires.left ends.1 known.rows.steps.ok.0

pub overflow_add-way : goal.overflow_add-way
overflow_add-way g c =
    let r = c.requires.graph in
    let known = c.args.known.now in
    let way = c.args.way.now in
    let keys = g.M.Numbering.keys known.graph.discovery.nodes in
    let ends = frame_ends g.N.PartialEq.eq g.met.N.Eq.laws g.C.Number.value g.C.Number.fits r.0 r.1 r.2 r.3 keys known.rows.steps.items known.rows.spans.items r.4.rows (length keys) c.requires.whole.table way.frame (reverse way.trail.items) way.cut_off.least way.cut_off.past r.5 in
    place_fits _ _ _ _ _ c.requires.left ends.1 known.rows.steps.ok known.rows.steps.small

pub overflow_add-way-in_default : goal.overflow_add-way-in_default
overflow_add-way-in_default g c =
    let r = c.requires.graph in
    let known = c.args.known.now in
    let way = c.args.way.now in
    let keys = g.M.Numbering.keys known.graph.discovery.nodes in
    let ends = frame_ends g.N.PartialEq.eq g.met.N.Eq.laws g.C.Number.value g.C.Number.fits r.0 r.1 r.2 r.3 keys known.rows.steps.items known.rows.spans.items r.4.rows (length keys) c.requires.whole.table way.frame (reverse way.trail.items) way.cut_off.least way.cut_off.past r.5 in
    place_fits _ _ _ _ _ c.requires.left ends.1 known.rows.steps.ok known.rows.steps.small
