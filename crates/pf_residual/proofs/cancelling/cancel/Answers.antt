use Rattle.std.proofs.Common.{◌≡◌, ◌≢◌, ◌<◌, ◌∙◌, arith, length, sym, subst, pos, true≢false, ℤ}
use Rattle.std.specs.Prelude.{◌≤ℤ◌, ◌<ℤ◌, ◌+ℤ◌, ◌-ℤ◌, unsigned_abs}
use Rattle.std.proofs.lemmas.Int.{ints}
use Rattle.std.proofs.lemmas.Result.{IfOk-from_err}
use Rattle.pf_residual.specs.Internal.Cancelling.{Has, AreInside, IsOnce, IsTakenOff, IsLowered, gained, net_of}
use Rattle.pf_base.proofs.Outcomes.{refused_as}
use Rattle.pf_residual.proofs.CycleLemmas.{lowered_amounts, lowered_none, lowered_more, circulation_more, cycle_above, through_above}
use Rattle.pf_residual.proofs.cancelling.cancel.Goals as goal

less_abs : (x y : ℤ) → pos 0 ≤ℤ y → y <ℤ x → unsigned_abs y < unsigned_abs x
less_abs x y l m = grind (arith, ints)

rest_not_below : (r a : ℤ) → a ≤ℤ r → pos 0 ≤ℤ (r -ℤ a)
rest_not_below r a l = omega (arith, ints, l)

rest_at_most : (r a : ℤ) → pos 0 <ℤ a → (r -ℤ a) ≤ℤ r
rest_at_most r a l = omega (arith, ints, l)

nothing_off : (z : ℤ) → z -ℤ z ≡ pos 0
nothing_off z = omega (arith, ints)

left_not_below : (n r a : ℤ) → n ≡ r -ℤ a → a ≤ℤ r → pos 0 ≤ℤ n
left_not_below n r a e l = omega (arith, ints, e, l)

left_less : (n r a : ℤ) → n ≡ r -ℤ a → pos 0 <ℤ a → n <ℤ r
left_less n r a e l = omega (arith, ints, e, l)

at_least_none : (a : ℤ) → pos 0 <ℤ a → pos 0 ≤ℤ a
at_least_none a l = omega (arith, ints, l)

more_off : (n r a x : ℤ) → n ≡ r -ℤ a → x -ℤ n ≡ (x -ℤ r) +ℤ a
more_off n r a x e = omega (arith, ints, e)

above_none : (r : ℤ) → pos 0 ≤ℤ r → r ≢ pos 0 → pos 0 <ℤ r
above_none r l n = omega (arith, ints, l, n)

some_above : (r z : ℤ) → r ≤ℤ z → pos 0 ≤ℤ r → r ≢ pos 0 → pos 0 <ℤ z
some_above r z m l n = omega (arith, ints, m, l, n)

all_off : (x r : ℤ) → r ≡ pos 0 → x -ℤ r ≡ x
all_off x r e = omega (arith, ints, e)

pub minus-rest-requires : goal.minus-rest-requires
minus-rest-requires g c =
    let value = g.C.Number.value in
    let exact = g.met.C.Integral.exact_law in
    let e = c.least_amount-amount.ensures in
    let some = e.some in
    let most = e.limited in
    g.C.Number.between_law (pos 0) _ (value c.rounds.rest) exact (g.met.C.Zero.zero_fits_law exact) c.known.ensures (rest_not_below _ _ most) (rest_at_most _ _ some)

pub rounds-init : goal.rounds-init
rounds-init g c = record {
  balanced = c.requires.balanced;
  lowered = lowered_none g.C.Number.value c.args.through c.args.amounts.now c.requires.amounts _ (nothing_off (g.C.Number.value c.args.excess));
  some = c.requires.excess;
}

pub rounds-smaller : goal.rounds-smaller
rounds-smaller g c =
    let e = c.least_amount-amount.ensures in
    let some = e.some in
    let most = e.limited in
    let is = c.minus-rest.ensures in
    less_abs (g.C.Number.value c.rounds.rest) (g.C.Number.value c.minus-rest.result) (left_not_below _ _ _ is most) (left_less _ _ _ is some)

pub rounds-preserved : goal.rounds-preserved
rounds-preserved g c =
    let value = g.C.Number.value in
    let e = c.least_amount-amount.ensures in
    let some = e.some in
    let most = e.limited in
    let is = c.minus-rest.ensures in
    let d = value c.least_amount-amount.result in
    let cycle = c.in_ok-cycle.cycle.items in
    let ends = c.args.ends.now in
    let now = c.rounds.amounts in
    let new = c.take_off.new.amounts in
    let t : IsTakenOff value d cycle now new = subst (λ ks. IsTakenOff value d ks now new) c.deref-in-rounds.ensures.value c.take_off.ensures.taken in
    let long : length now ≡ length ends = c.rounds.invariant.lowered.len ∙ c.requires.long in
    record {
      balanced = circulation_more value ends c.args.through cycle d now new c.rounds.invariant.balanced c.in_ok-cycle.ensures.cycle
          (λ side. subst (λ ks. net_of value side ends new +ℤ gained side d ends ks ≡ net_of value side ends now) c.deref-in-rounds.ensures.value (c.take_off.ensures.balance side ends long));
      lowered = lowered_more value _ d _ c.args.through cycle c.args.amounts.now now new c.rounds.invariant.lowered t c.in_ok-cycle.ensures.cycle.passes (at_least_none _ some) (more_off _ _ _ _ is)
          (λ k h. e.each k (subst (λ ks. Has ks k) (sym c.deref.ensures.value) h));
      some = left_not_below _ _ _ is most;
    }

pub rows_of-requires : goal.rows_of-requires
rows_of-requires g c = record { inside = c.requires.inside }

pub cycle_through-requires-clause-rows : goal.cycle_through-requires-clause-rows
cycle_through-requires-clause-rows g c = c.in_ok-rows.ensures.rows

pub cycle_through-requires-clause-inside : goal.cycle_through-requires-clause-inside
cycle_through-requires-clause-inside g c = subst (λ n. AreInside n c.args.ends.now) (sym c.in_ok-rows.ensures.len) c.requires.inside

pub cycle_through-requires-clause-long : goal.cycle_through-requires-clause-long
cycle_through-requires-clause-long g c = c.rounds.invariant.lowered.len ∙ c.requires.long

pub cycle_through-requires-clause-amounts : goal.cycle_through-requires-clause-amounts
cycle_through-requires-clause-amounts g c = lowered_amounts g.C.Number.value _ c.args.through c.args.amounts.now c.rounds.amounts c.rounds.invariant.lowered

pub cycle_through-requires-clause-balanced : goal.cycle_through-requires-clause-balanced
cycle_through-requires-clause-balanced g c = c.rounds.invariant.balanced

pub cycle_through-requires-clause-through : goal.cycle_through-requires-clause-through
cycle_through-requires-clause-through g c =
    let value = g.C.Number.value in
    let o = through_above value (value c.args.excess) (value c.rounds.rest) c.args.through c.args.amounts.now c.rounds.amounts c.requires.enough c.rounds.invariant.lowered in
    let l = o.2 in
    let low = c.rounds.invariant.some in
    let some : value c.rounds.rest ≢ pos 0 = λ q. true≢false (sym ((c.is_zero.ensures.value g.met.C.Integral.exact_law).1 q) ∙ c.rounds-test.true) in
    (o.0, o.1, some_above _ _ l low some)

pub least_amount-amount-requires-clause-amounts : goal.least_amount-amount-requires-clause-amounts
least_amount-amount-requires-clause-amounts g c =
    λ k h. cycle_above g.C.Number.value c.args.ends.now c.args.through c.in_ok-cycle.cycle.items c.rounds.amounts
    (lowered_amounts g.C.Number.value _ c.args.through c.args.amounts.now c.rounds.amounts c.rounds.invariant.lowered) c.in_ok-cycle.ensures.cycle k (subst (λ ks. Has ks k) c.deref.ensures.value h)

pub least_amount-amount-requires-clause-limit : goal.least_amount-amount-requires-clause-limit
least_amount-amount-requires-clause-limit g c =
    let value = g.C.Number.value in
    let low = c.rounds.invariant.some in
    let some : value c.rounds.rest ≢ pos 0 = λ q. true≢false (sym ((c.is_zero.ensures.value g.met.C.Integral.exact_law).1 q) ∙ c.rounds-test.true) in
    above_none _ low some

pub take_off-requires-clause-once : goal.take_off-requires-clause-once
take_off-requires-clause-once g c = subst IsOnce (sym c.deref-in-rounds.ensures.value) c.in_ok-cycle.ensures.cycle.once

pub take_off-requires-clause-amount : goal.take_off-requires-clause-amount
take_off-requires-clause-amount g c = at_least_none _ c.least_amount-amount.ensures.some

pub take_off-requires-clause-each : goal.take_off-requires-clause-each
take_off-requires-clause-each g c = λ k h. c.least_amount-amount.ensures.each k (subst (λ ks. Has ks k) (c.deref-in-rounds.ensures.value ∙ sym c.deref.ensures.value) h)

pub returns : goal.returns
returns g c = record {
  balanced = c.rounds.invariant.balanced;
  lowered =
      let value = g.C.Number.value in
      let none = (c.is_zero.ensures.value g.met.C.Integral.exact_law).0 c.rounds-test.false in
      subst (λ (z : ℤ). IsLowered value z c.args.through c.args.amounts.now c.rounds.amounts) (all_off _ _ none) c.rounds.invariant.lowered;
  refused = tt;
}

pub returns-in_err-rows : goal.returns-in_err-rows
returns-in_err-rows g c = record {
  balanced = IfOk-from_err _ _ c.from_residual.ensures.0;
  lowered = IfOk-from_err _ _ c.from_residual.ensures.0;
  refused = refused_as _ c.from_residual.result _ c.from_residual.ensures.1 c.in_err-rows.ensures.refused;
}

pub returns-in_err-cycle : goal.returns-in_err-cycle
returns-in_err-cycle g c = record {
  balanced = IfOk-from_err _ _ c.from_residual-in_err-cycle.ensures.0;
  lowered = IfOk-from_err _ _ c.from_residual-in_err-cycle.ensures.0;
  refused = refused_as _ c.from_residual-in_err-cycle.result _ c.from_residual-in_err-cycle.ensures.1 c.in_err-cycle.ensures.refused;
}
