use Rattle.std.proofs.Common.{refl, sym, inl, inr, ◌<◌}
use Rattle.std.specs.Prelude.{◌⊎◌}
use Rattle.pf_orders.specs.Internal.ComponentSearch.{IsAt}
use Rattle.pf_orders.proofs.ComponentLists.{popped}
use Rattle.pf_orders.proofs.SegmentLemmas.{joined_here, joined_none, one_fewer, kept_on, stays_or}
use Rattle.pf_orders.proofs.component_search.join_segments.Goals as goal

pub segments-init : goal.segments-init
segments-init g c = record { kept = λ i d a. a; stays = λ i d a. inl a }

pub returns-then-segment-place : goal.returns-then-segment-place
returns-then-segment-place g c = joined_here c.args.place c.segments.segments.items c.deref.result.now c.deref.ensures.value c.args.segments.now.items c.in-Some.segment.now c.in-Some.ensures.value c.if-segment-place.true c.segments.invariant.kept c.segments.invariant.stays

pub segments-smaller : goal.segments-smaller
segments-smaller g c = one_fewer c.args.place c.segments.segments.items c.deref.result.now c.deref.ensures.value c.in-Some.segment.now c.in-Some.ensures.value c.pop.new.self.items (popped c.segments.segments.items c.segments.segments.items _ _ c.pop.ensures.rest (sym c.segments.segments.ok.0) refl)

pub segments-preserved : goal.segments-preserved
segments-preserved g c =
    let now = c.segments.segments.items in
    let rest = c.pop.new.self.items in
    let less = popped now now rest _ c.pop.ensures.rest (sym c.segments.segments.ok.0) refl in
    record {
      kept = λ i d a. c.segments.invariant.kept i d (kept_on c.args.place now c.deref.result.now c.deref.ensures.value c.in-Some.segment.now c.in-Some.ensures.value rest less i d a);
      stays = λ i d a. elim (c.segments.invariant.stays i d a) as (λ _. IsAt rest i d ⊎ (c.args.place < d.begin)) [
        | inl b ↦ stays_or c.args.place now c.deref.result.now c.deref.ensures.value c.in-Some.segment.now c.in-Some.ensures.value rest less c.if-segment-place.false i d b
        | inr far ↦ inr far
      ];
    }

pub returns : goal.returns
returns g c = joined_none c.args.place c.segments.segments.items c.deref.result.now c.deref.ensures.value c.args.segments.now.items c.in_default.ensures.value c.segments.invariant.kept c.segments.invariant.stays
