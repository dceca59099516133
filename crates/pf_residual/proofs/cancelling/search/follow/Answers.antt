use Rattle.std.proofs.Common.{◌≡◌, ◌≢◌, ◌∙◌, Some, arith, get_or, refl, sym, ap, subst, pos, true≢false}
use Rattle.std.specs.Prelude.{slice_get}
use Rattle.std.proofs.lemmas.Option.{slice_get-get_or, slice_get_within}
use Rattle.pf_base.proofs.ListLemmas.{at_place}
use Rattle.pf_base.proofs.Outcomes.{on_ok}
use Rattle.pf_residual.specs.declared.cancelling.arcs.Arc.{Arc}
use Rattle.pf_residual.specs.declared.cancelling.search.Step.{Step}
use Rattle.pf_residual.specs.Internal.Cancelling.{IsStep, IsPlaced}
use Rattle.pf_residual.proofs.SearchLemmas.{extends_same, reached_more, reaches_extends, reaches_placed}
use Rattle.pf_residual.proofs.cancelling.search.follow.Goals as goal

abbrev none : Arc
none = record { from = 0; to = 0 }

pub offset_bounds-amounts-number : goal.offset_bounds-amounts-number
offset_bounds-amounts-number g c =
    let l = slice_get_within c.args.ends.now c.args.number c.requires.arc.1 c.requires.arc.3 in
    omega (arith, l, c.requires.long)

pub bounds-amounts-number : goal.bounds-amounts-number
bounds-amounts-number g c =
    let l = slice_get_within c.args.ends.now c.args.number c.requires.arc.1 c.requires.arc.3 in
    omega (arith, l, c.requires.long)

pub returns-clause-reached : goal.returns-clause-reached
returns-clause-reached g c = on_ok c.reach.result c.reach.ensures.reached (λ h start r.
    let ends = c.args.ends.now in
    let xs = c.args.amounts.now in
    let old = c.args.reached.now in
    let new = c.reach.new.reached in
    let at = c.requires.arc in
    let k = c.args.number in
    let e = get_or ends k none in
    let here : slice_get ends k ≡ Some e = slice_get-get_or ends k none (slice_get_within ends k at.1 at.3) in
    let same : Some at.1 ≡ Some e = sym at.3 ∙ here in
    let v : at.1 ≡ e = cc in
    let from : e.from ≡ at.0.vertex = ap (λ (a : Arc). a.from) (sym v) ∙ at.4 in
    let x = c.index-amounts-number.result in
    let amount : slice_get xs k ≡ Some x = at_place xs k _ _ (omega (arith, slice_get_within ends k at.1 at.3, c.requires.long)) (sym c.index-amounts-number.is) in
    let some : g.C.Number.value x ≢ pos 0 = λ q. true≢false (sym ((c.is_zero.ensures.value g.met.C.Integral.exact_law).1 q) ∙ c.if-is_zero.false) in
    let step : Step = record { vertex = e.to; arc = k; before = c.args.at } in
    let one : IsStep g.C.Number.value ends xs old.steps.items step = record { last = at.0; known = at.2; arc = e; at = here; from = from; to = refl; carries = (x, amount, some) } in
    reached_more g.C.Number.value ends xs start step old.steps.items old.places.items new.steps.items new.places.items one h r)

pub returns-clause-extends : goal.returns-clause-extends
returns-clause-extends g c = on_ok c.reach.result c.reach.ensures.reached (λ h. reaches_extends _ c.args.reached.now.steps.items c.args.reached.now.places.items c.reach.new.reached.steps.items c.reach.new.reached.places.items h)

pub returns-clause-placed : goal.returns-clause-placed
returns-clause-placed g c = on_ok c.reach.result c.reach.ensures.reached (λ h e at some.
    let ends = c.args.ends.now in
    let k = c.args.number in
    let d = get_or ends k none in
    let here : slice_get ends k ≡ Some d = slice_get-get_or ends k none (slice_get_within ends k e at) in
    let same : Some d ≡ Some e = sym here ∙ at in
    let v : d ≡ e = cc in
    subst (λ (a : Arc). IsPlaced c.reach.new.reached.places.items a.to) v (reaches_placed _ c.args.reached.now.steps.items c.args.reached.now.places.items c.reach.new.reached.steps.items c.reach.new.reached.places.items h))

pub offset_bounds-ends-number : goal.offset_bounds-ends-number
offset_bounds-ends-number g c =
    let l = slice_get_within c.args.ends.now c.args.number c.requires.arc.1 c.requires.arc.3 in
    omega (arith, l)

pub bounds-ends-number : goal.bounds-ends-number
bounds-ends-number g c = slice_get_within c.args.ends.now c.args.number c.requires.arc.1 c.requires.arc.3

pub reach-requires : goal.reach-requires
reach-requires g c =
    let ends = c.args.ends.now in
    let k = c.args.number in
    let at = c.requires.arc in
    let here : slice_get ends k ≡ Some (get_or ends k none) = slice_get-get_or ends k none (slice_get_within ends k at.1 at.3) in
    record { inside = (c.requires.inside k (get_or ends k none) here).1 }

pub returns-then-is_zero-clause-reached : goal.returns-then-is_zero-clause-reached
returns-then-is_zero-clause-reached g c = λ start r. r

pub returns-then-is_zero-clause-extends : goal.returns-then-is_zero-clause-extends
returns-then-is_zero-clause-extends g c = extends_same c.args.reached.now.steps.items c.args.reached.now.places.items

pub returns-then-is_zero-clause-placed : goal.returns-then-is_zero-clause-placed
returns-then-is_zero-clause-placed g c = λ e at amount.
    let xs = c.args.amounts.now in
    let k = c.args.number in
    let x = c.index-amounts-number.result in
    let here : slice_get xs k ≡ Some x = at_place xs k _ _ (omega (arith, slice_get_within c.args.ends.now k e at, c.requires.long)) (sym c.index-amounts-number.is) in
    let same : Some amount.0 ≡ Some x = sym amount.1 ∙ here in
    let v : amount.0 ≡ x = cc in
    absurd (amount.2 (ap g.C.Number.value v ∙ (c.is_zero.ensures.value g.met.C.Integral.exact_law).0 c.if-is_zero.true))
