use Rattle.std.proofs.Common.{◌≡◌, ◌∙◌, ◌+ℤ◌, ℤ, pos, arith, inl, inr, refl, sym, ap, subst}
use Rattle.std.specs.Prelude.{◌-ℤ◌, ◌≤ℤ◌, ◌<ℤ◌}
use Rattle.std.proofs.lemmas.Int.{ints}
use Rattle.std.proofs.lemmas.Result.{IfOk-from_err}
use Rattle.pf_residual.specs.Capacities.{IsChangeRefused}
use Rattle.pf_residual.specs.Networks.{Agrees, with_residual}
use Rattle.pf_residual.proofs.SumLemmas.{pair_sum_has}
use Rattle.pf_residual.proofs.FillLemmas.{unused_residual, residual_agrees, exchanged_sum, put_changed, put_sum, put_unused}
use Rattle.pf_base.proofs.Outcomes.{refused_as}
use Rattle.pf_flow.proofs.makers.put_capacity.Goals as goal

at_most : (a b c d : ℤ) → c ≤ℤ d → a ≡ c → b ≡ d → a ≤ℤ b
at_most a b c d l e f = omega (arith, ints, l, e, f)

put_in_place : (c m n o d : ℤ) → n ≡ m → o ≡ n → d ≡ c -ℤ o → c ≡ m +ℤ d
put_in_place c m n o d e f h = omega (arith, ints, e, f, h)

pub exchanged-requires-clause-within : goal.exchanged-requires-clause-within
exchanged-requires-clause-within g c =
    let N = g.S.FlowStore.network c.args.store.now in
    let has = pair_sum_has c.requires.unused.capacities c.args.from c.args.to c.requires.from c.requires.to in
    let left = unused_residual c.requires.unused c.args.from c.args.to in
    let old = c.residual_capacity-old.ensures in
    let sum = c.requires.sum in
    at_most _ _ _ _ has (old ∙ left) sum

pub exchanged-requires-clause-old : goal.exchanged-requires-clause-old
exchanged-requires-clause-old g c =
    let above = c.requires.unused.capacities.at c.args.from c.args.to c.requires.from c.requires.to in
    let left = unused_residual c.requires.unused c.args.from c.args.to in
    let old = c.residual_capacity-old.ensures in
    subst (λ z. pos 0 ≤ℤ z) (sym (old ∙ left)) above

pub difference-requires-clause-old : goal.difference-requires-clause-old
difference-requires-clause-old g c =
    let above = c.requires.unused.capacities.at c.args.from c.args.to c.requires.from c.requires.to in
    let left = unused_residual c.requires.unused c.args.from c.args.to in
    let old = c.residual_capacity-old.ensures in
    subst (λ z. pos 0 ≤ℤ z) (sym (old ∙ left)) above

pub difference-requires-clause-new : goal.difference-requires-clause-new
difference-requires-clause-new g c =
    let zero = ap g.C.Number.value c.zero.ensures ∙ g.met.C.Zero.zero_law g.met.C.Integral.exact_law in
    let low = c.if-is_below.ensures in
    subst (λ z. z ≤ℤ g.C.Number.value c.args.capacity) zero low

pub add_residual_capacity-requires-clause-room : goal.add_residual_capacity-requires-clause-room
add_residual_capacity-requires-clause-room g c = c.in_ok-make_room.ensures.room

pub add_residual_capacity-requires-clause-fits : goal.add_residual_capacity-requires-clause-fits
add_residual_capacity-requires-clause-fits g c =
    let same = c.in_ok-make_room.ensures.same.residual.at c.args.from c.args.to in
    let old = c.residual_capacity-old.ensures in
    let more = c.difference.ensures in
    subst g.C.Number.fits (put_in_place _ _ _ _ _ same old more) c.known.ensures

pub residual_capacity-old-requires-clause-from : goal.residual_capacity-old-requires-clause-from
residual_capacity-old-requires-clause-from g c = c.requires.from

pub residual_capacity-old-requires-clause-to : goal.residual_capacity-old-requires-clause-to
residual_capacity-old-requires-clause-to g c = c.requires.to

pub make_room-requires-clause-from : goal.make_room-requires-clause-from
make_room-requires-clause-from g c = c.requires.from

pub make_room-requires-clause-to : goal.make_room-requires-clause-to
make_room-requires-clause-to g c = c.requires.to

pub returns-then-is_below : goal.returns-then-is_below
returns-then-is_below g c = record {
  unused = tt;
  sum = tt;
  changed = tt;
  refused =
      let zero = ap g.C.Number.value c.zero.ensures ∙ g.met.C.Zero.zero_law g.met.C.Integral.exact_law in
      let low = c.if-is_below.ensures in
      inr (inl (refl, subst (λ z. g.C.Number.value c.args.capacity <ℤ z) zero low));
}

pub returns-in_default : goal.returns-in_default
returns-in_default g c = record {
  refused =
      let value = g.C.Number.value in
      let zero = ap value c.zero.ensures ∙ g.met.C.Zero.zero_law g.met.C.Integral.exact_law in
      let low = c.if-is_below.ensures in
      let same = exchanged_sum c.args.from c.args.to (value c.args.capacity) c.requires.unused c.requires.from c.requires.to c.requires.sum c.residual_capacity-old.ensures in
      inr (inr (refl, subst (λ z. z ≤ℤ value c.args.capacity) zero low, λ f. c.in_default.ensures (subst g.C.Number.fits (sym same) f)));
  unused = tt;
  sum = tt;
  changed = tt;
}

pub returns-in_err-make_room : goal.returns-in_err-make_room
returns-in_err-make_room g c = record {
  unused = IfOk-from_err _ _ c.from_residual.ensures.0;
  sum = IfOk-from_err _ _ c.from_residual.ensures.0;
  changed = IfOk-from_err _ _ c.from_residual.ensures.0;
  refused =
      let why : IsChangeRefused g.C.Number.fits (g.S.FlowStore.network c.args.store.now) c.args.from c.args.to (g.C.Number.value c.args.capacity) c.in_err-make_room.field-0.0 = inl c.in_err-make_room.ensures.refused in
      refused_as _ c.from_residual.result _ c.from_residual.ensures.1 why;
}

pub returns : goal.returns
returns g c =
    let N = g.S.FlowStore.network c.args.store.now in
    let M = g.S.FlowStore.network c.add_residual_capacity.new.self in
    let value = g.C.Number.value in
    record {
      unused =
          let zero = ap value c.zero.ensures ∙ g.met.C.Zero.zero_law g.met.C.Integral.exact_law in
          let low = c.if-is_below.ensures in
          let same = exchanged_sum c.args.from c.args.to (value c.args.capacity) c.requires.unused c.requires.from c.requires.to c.requires.sum c.residual_capacity-old.ensures in
          let more = c.difference.ensures ∙ ap (λ z. value c.args.capacity -ℤ z) c.residual_capacity-old.ensures in
          let agrees : Agrees (with_residual c.args.from c.args.to (value c.args.capacity -ℤ N.residual c.args.from c.args.to) N) M =
          residual_agrees c.args.from c.args.to _ c.in_ok-make_room.ensures.same (subst (λ z. Agrees (with_residual c.args.from c.args.to z (g.S.FlowStore.network c.make_room.new.self)) M) more c.add_residual_capacity.ensures) in
          put_unused c.args.from c.args.to (value c.args.capacity) c.requires.unused agrees (subst (λ z. z ≤ℤ value c.args.capacity) zero low) (subst g.C.Number.fits same c.in-Some.ensures.0);
      sum =
          let same = exchanged_sum c.args.from c.args.to (value c.args.capacity) c.requires.unused c.requires.from c.requires.to c.requires.sum c.residual_capacity-old.ensures in
          let more = c.difference.ensures ∙ ap (λ z. value c.args.capacity -ℤ z) c.residual_capacity-old.ensures in
          let agrees : Agrees (with_residual c.args.from c.args.to (value c.args.capacity -ℤ N.residual c.args.from c.args.to) N) M =
          residual_agrees c.args.from c.args.to _ c.in_ok-make_room.ensures.same (subst (λ z. Agrees (with_residual c.args.from c.args.to z (g.S.FlowStore.network c.make_room.new.self)) M) more c.add_residual_capacity.ensures) in
          c.in-Some.ensures.1 ∙ same ∙ put_sum c.args.from c.args.to (value c.args.capacity) c.requires.unused agrees;
      changed =
          let more = c.difference.ensures ∙ ap (λ z. value c.args.capacity -ℤ z) c.residual_capacity-old.ensures in
          let agrees : Agrees (with_residual c.args.from c.args.to (value c.args.capacity -ℤ N.residual c.args.from c.args.to) N) M =
          residual_agrees c.args.from c.args.to _ c.in_ok-make_room.ensures.same (subst (λ z. Agrees (with_residual c.args.from c.args.to z (g.S.FlowStore.network c.make_room.new.self)) M) more c.add_residual_capacity.ensures) in
          put_changed c.args.from c.args.to (value c.args.capacity) c.requires.unused agrees;
      refused = tt;
    }
