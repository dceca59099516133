use Rattle.std.proofs.Common.{◌≡◌, ◌<◌, ◌∙◌, ℕ, List, Some, arith, length, refl, sym, ap, subst}
use Rattle.std.specs.Prelude.{slice_get, None}
use Rattle.std.proofs.lemmas.Int.{ints}
use Rattle.std.proofs.lemmas.Option.{slice_get-get_or, slice_get_within}
use Rattle.std.proofs.lemmas.Result.{IfOk-from_err}
use Rattle.pf_base.proofs.ListLemmas.{at_place}
use Rattle.pf_residual.specs.declared.cancelling.arcs.Arc.{Arc}
use Rattle.pf_residual.specs.Internal.Cancelling.{IsCycle, IsWayBack}
use Rattle.pf_base.proofs.Outcomes.{refused_as, refused_by}
use Rattle.pf_residual.proofs.CycleLemmas.{tail_reached, way_begin, way_more, way_end, before_less}
use Rattle.pf_residual.proofs.cancelling.cycle.cycle_through.Invariants.{arc_at}
use Rattle.pf_residual.proofs.cancelling.cycle.cycle_through.Goals as goal

through_at : {C : Type 0} {P : C → Type 0} (ends : List Arc) (amounts : List C) → length amounts ≡ length ends → (k : ℕ) → (x : C) × (slice_get amounts k ≡ Some x) × P x → slice_get ends k ≡ Some (arc_at ends k)
through_at ends amounts long k t = slice_get-get_or ends k _ (omega (arith, slice_get_within amounts k t.0 t.1, long))

pub unreachable-requires : goal.unreachable-requires
unreachable-requires g c =
    let value = g.C.Number.value in
    let ends = c.args.ends.now in
    let k = c.args.through in
    let t = c.requires.through in
    let below : k < length ends = omega (arith, slice_get_within c.args.amounts.now k t.0 t.1, c.requires.long) in
    let at : slice_get ends k ≡ Some (arc_at ends k) = slice_get-get_or ends k _ below in
    let l = (c.requires.inside k (arc_at ends k) at).0 in
    let r = c.in_ok-reached.ensures in
    let places = c.in_ok-reached.reached.places.items in
    let free : slice_get places (arc_at ends k).from ≡ Some None = at_place places (arc_at ends k).from _ _ (omega (arith, l, r.wide)) (sym c.index.ensures) ∙ ap Some c.in_default.is in
    tail_reached value ends c.args.amounts.now (arc_at ends k).to c.in_ok-reached.reached.steps.items places k (arc_at ends k) t.0 c.requires.amounts c.requires.balanced r.reached r.whole at t.1 t.2 refl free

pub steps-init : goal.steps-init
steps-init g c =
    let value = g.C.Number.value in
    let ends = c.args.ends.now in
    let k = c.args.through in
    let t = c.requires.through in
    let below : k < length ends = omega (arith, slice_get_within c.args.amounts.now k t.0 t.1, c.requires.long) in
    let at : slice_get ends k ≡ Some (arc_at ends k) = slice_get-get_or ends k _ below in
    let l = (c.requires.inside k (arc_at ends k) at).0 in
    let r = c.in_ok-reached.ensures in
    let places = c.in_ok-reached.reached.places.items in
    let here : slice_get places (arc_at ends k).from ≡ Some (Some c.in-Some.last) = at_place places (arc_at ends k).from _ _ (omega (arith, l, r.wide)) (sym c.index.ensures) ∙ ap Some c.in-Some.is in
    let made = way_begin value ends c.args.amounts.now (arc_at ends k).to (arc_at ends k).from c.in_ok-reached.reached.steps.items places c.in-Some.last r.reached here in
    subst (λ way. IsWayBack value ends c.args.amounts.now (arc_at ends k).from c.in_ok-reached.reached.steps.items places c.in-Some.last way) (sym c.new-cycle.ensures.items) made

pub index-step-requires : goal.index-step-requires
index-step-requires g c =
    let w = c.steps.invariant.leads in
    let l = slice_get_within c.in_ok-reached.reached.steps.items c.steps.at w.0 w.1 in
    omega (arith, l, c.in_ok-reached.reached.steps.ok)

pub steps-smaller : goal.steps-smaller
steps-smaller g c =
    let k = c.args.through in
    let steps = c.in_ok-reached.reached.steps.items in
    let w = c.steps.invariant.leads in
    let l = slice_get_within steps c.steps.at w.0 w.1 in
    let s = c.index-step.result.now in
    let at : slice_get steps c.steps.at ≡ Some s = at_place steps c.steps.at _ _ l (sym c.index-step.ensures) in
    before_less g.C.Number.value c.args.ends.now c.args.amounts.now (arc_at c.args.ends.now k).to steps c.in_ok-reached.reached.places.items c.steps.at s (omega (arith, c.steps-test.true)) at c.in_ok-reached.ensures.reached

pub steps-preserved : goal.steps-preserved
steps-preserved g c =
    let value = g.C.Number.value in
    let ends = c.args.ends.now in
    let k = c.args.through in
    let steps = c.in_ok-reached.reached.steps.items in
    let w = c.steps.invariant.leads in
    let l = slice_get_within steps c.steps.at w.0 w.1 in
    let s = c.index-step.result.now in
    let at : slice_get steps c.steps.at ≡ Some s = at_place steps c.steps.at _ _ l (sym c.index-step.ensures) in
    let made = way_more value ends c.args.amounts.now (arc_at ends k).to (arc_at ends k).from steps c.in_ok-reached.reached.places.items c.steps.at c.steps.cycle.items s (omega (arith, c.steps-test.true)) at c.in_ok-reached.ensures.reached c.steps.invariant in
    subst (λ way. IsWayBack value ends c.args.amounts.now (arc_at ends k).from steps c.in_ok-reached.reached.places.items s.before way) (sym c.in_ok-push.ensures.items) made

pub bounds-ends-through : goal.bounds-ends-through
bounds-ends-through g c =
    let t = c.requires.through in
    omega (arith, slice_get_within c.args.amounts.now c.args.through t.0 t.1, c.requires.long)

pub offset_bounds-ends-through : goal.offset_bounds-ends-through
offset_bounds-ends-through g c =
    let t = c.requires.through in
    omega (arith, slice_get_within c.args.amounts.now c.args.through t.0 t.1, c.requires.long)

pub index-requires : goal.index-requires
index-requires g c =
    let l = (c.requires.inside c.args.through (arc_at c.args.ends.now c.args.through) (through_at c.args.ends.now c.args.amounts.now c.requires.long c.args.through c.requires.through)).0 in
    omega (arith, l, c.in_ok-reached.ensures.wide, c.in_ok-reached.reached.places.ok)

pub search-requires-clause-rows : goal.search-requires-clause-rows
search-requires-clause-rows g c = c.requires.rows

pub search-requires-clause-long : goal.search-requires-clause-long
search-requires-clause-long g c = c.requires.long

pub search-requires-clause-inside : goal.search-requires-clause-inside
search-requires-clause-inside g c = c.requires.inside

pub search-requires-clause-start : goal.search-requires-clause-start
search-requires-clause-start g c = (c.requires.inside c.args.through (arc_at c.args.ends.now c.args.through) (through_at c.args.ends.now c.args.amounts.now c.requires.long c.args.through c.requires.through)).1

pub returns : goal.returns
returns g c = record {
  cycle =
      let value = g.C.Number.value in
      let ends = c.args.ends.now in
      let k = c.args.through in
      let t = c.requires.through in
      let steps = c.in_ok-reached.reached.steps.items in
      let places = c.in_ok-reached.reached.places.items in
      let below : k < length ends = omega (arith, slice_get_within c.args.amounts.now k t.0 t.1, c.requires.long) in
      let at : slice_get ends k ≡ Some (arc_at ends k) = slice_get-get_or ends k _ below in
      let done : c.steps.at ≡ 0 = omega (arith, c.steps-test.false) in
      let last = subst (λ (n : ℕ). IsWayBack value ends c.args.amounts.now (arc_at ends k).from steps places n c.steps.cycle.items) done c.steps.invariant in
      let some = t.2 in
      let made = way_end value ends c.args.amounts.now (arc_at ends k).to (arc_at ends k).from steps places c.steps.cycle.items k (arc_at ends k) c.in_ok-reached.ensures.reached last at refl refl (t.0, t.1, λ q. absurd (omega (arith, ints, q, some))) in
      subst (λ cycle. IsCycle value ends c.args.amounts.now k cycle) (sym c.in_ok-push-2.ensures.items) made;
  refused = tt;
}

pub returns-in_err-reached : goal.returns-in_err-reached
returns-in_err-reached g c = record {
  cycle = IfOk-from_err _ _ c.from_residual.ensures.0;
  refused = refused_as _ c.from_residual.result _ c.from_residual.ensures.1 c.in_err-reached.ensures.refused;
}

pub returns-in_err-push : goal.returns-in_err-push
returns-in_err-push g c = record {
  cycle = IfOk-from_err _ _ c.from_residual-in_err-push.ensures.0;
  refused = refused_by _ c.from_residual-in_err-push.result c.from_residual-in_err-push.ensures.1;
}

pub returns-in_err-push-2 : goal.returns-in_err-push-2
returns-in_err-push-2 g c = record {
  cycle = IfOk-from_err _ _ c.from_residual-in_err-push-2.ensures.0;
  refused = refused_by _ c.from_residual-in_err-push-2.result c.from_residual-in_err-push-2.ensures.1;
}
