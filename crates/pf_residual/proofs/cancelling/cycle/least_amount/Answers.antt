use Rattle.std.proofs.Common.{◌≡◌, ◌≤◌, ◌<◌, ◌∙◌, ℕ, List, Some, arith, get_or, length, sym, ap, subst, take_all, pos, inl, inr}
use Rattle.std.specs.Prelude.{slice_get, ◌≤ℤ◌, ◌<ℤ◌}
use Rattle.std.proofs.lemmas.Int.{ints}
use Rattle.std.proofs.lemmas.Option.{slice_get-get_or, slice_get_within}
use Rattle.pf_base.proofs.ListLemmas.{at_place, none_in}
use Rattle.pf_residual.specs.Internal.Cancelling.{Has, HasAmount}
use Rattle.pf_residual.proofs.SearchLemmas.{Has-take}
use Rattle.pf_residual.proofs.cancelling.cycle.least_amount.Goals as goal

pub bounds-amounts-number : goal.bounds-amounts-number
bounds-amounts-number g c =
    let i = c.arcs.number-index in
    let k = get_or c.args.cycle.now i 0 in
    let o = c.requires.amounts k (i, slice_get-get_or c.args.cycle.now i 0 c.arcs-test.true) in
    slice_get_within c.args.amounts.now k o.0 o.1

pub offset_bounds-amounts-number : goal.offset_bounds-amounts-number
offset_bounds-amounts-number g c =
    let l : get_or c.args.cycle.now c.arcs.number-index 0 < length c.args.amounts.now = bounds-amounts-number g c in
    omega (arith, l)

pub arcs-preserved : goal.arcs-preserved
arcs-preserved g c =
    let value = g.C.Number.value in
    let i = c.arcs.number-index in
    let cycle = c.args.cycle.now in
    let k = get_or cycle i 0 in
    let xs = c.args.amounts.now in
    let x = c.index-amounts-number.result in
    let least = c.lesser-least.result in
    let o = c.requires.amounts k (i, slice_get-get_or cycle i 0 c.arcs-test.true) in
    let at : slice_get xs k ≡ Some x = at_place xs k _ _ (slice_get_within xs k o.0 o.1) (sym c.index-amounts-number.is) in
    let same : Some x ≡ Some o.0 = sym at ∙ o.1 in
    let v : x ≡ o.0 = cc in
    let e : value x ≡ value o.0 = ap value v in
    let r = c.lesser-least.ensures in
    let low = r.lower in
    let also = r.also in
    let w = c.arcs.invariant in
    let some = w.some in
    let limited = w.limited in
    let above = o.2 in
    record {
      some = elim r.either as (λ _. pos 0 <ℤ value least) [
        | inl q ↦ omega (arith, ints, q, e, above)
        | inr q ↦ omega (arith, ints, q, some)
      ];
      limited = omega (arith, ints, also, limited);
      each = λ j h. elim (Has-take cycle i j c.arcs-test.true h) as (λ _. HasAmount value xs j (λ z. value least ≤ℤ z)) [
        | inl p ↦ (let q = w.each j p in let u = q.2 in (q.0, q.1, omega (arith, ints, u, also)))
        | inr p ↦ (x, ap (slice_get xs) (sym p) ∙ at, low)
      ];
    }

pub bounds-cycle-number-index : goal.bounds-cycle-number-index
bounds-cycle-number-index g c = c.arcs-test.true

pub arcs-smaller : goal.arcs-smaller
arcs-smaller g c = omega (arith, c.arcs-test.true)

pub arcs-init : goal.arcs-init
arcs-init g c =
    let limit = c.requires.limit in
    record { some = limit; limited = omega (arith, ints); each = λ k h. absurd (none_in h.0 k h.1) }

pub returns : goal.returns
returns g c = record {
  some = c.arcs.invariant.some;
  limited = c.arcs.invariant.limited;
  each =
      let all : length c.args.cycle.now ≤ c.arcs.number-index = omega (arith, c.arcs-test.false) in
      λ k h. c.arcs.invariant.each k (subst (λ (ks : List ℕ). Has ks k) (sym (take_all c.arcs.number-index c.args.cycle.now all)) h);
}
