use Rattle.std.proofs.Common.{◌≡◌, ◌∙◌, ◌<◌, ◌+◌, ◌-◌, ℕ, ℤ, Option, Some, arith, length, sym, subst, take}
use Rattle.std.specs.Prelude.{slice_get, ◌≤ℤ◌, ◌+ℤ◌, ◌-ℤ◌}
use Rattle.std.proofs.lemmas.Int.{ints}
use Rattle.std.proofs.lemmas.Result.{IfOk-from_err, MatchResult-from_err}
use Rattle.pf_base.proofs.ListLemmas.{at_place, get_take}
use Rattle.pf_residual.specs.Internal.Cancelling.{AreInside}
use Rattle.pf_residual.specs.Internal.Settled.{AreFlowing, IsSettled, AreApart}
use Rattle.pf_residual.proofs.AgreeLemmas.{agrees_itself, capacities_agrees, capacities_more, network_agrees}
use Rattle.pf_base.proofs.Outcomes.{refused_as}
use Rattle.pf_residual.proofs.NetworkLemmas.{balanced_of}
use Rattle.pf_residual.proofs.SettledLemmas.{settled_here}
use Rattle.pf_flow.proofs.TakeBackLemmas.{plan_flowing, plan_network}
use Rattle.pf_flow.proofs.taking_back.take_back_by.Goals as goal

-- what is left of the last arc is the total
one_amount : {C : Type 0} (value : C → ℤ) (o : Option C) (x y : C) → o ≡ Some x → o ≡ Some y → value x ≡ value y
one_amount value o x y e f = let both : Some x ≡ Some y = sym e ∙ f in cc

falls : (new x y old total : ℤ) → new ≡ x → x ≡ y → y ≤ℤ old → old ≡ total → new ≤ℤ total
falls new x y old total a b l e = omega (arith, ints, a, b, l, e)

not_far : (new x y old total z : ℤ) → new ≡ x → x ≡ y → (old -ℤ z) ≤ℤ y → old ≡ total → total ≤ℤ (new +ℤ z)
not_far new x y old total z a b l e = omega (arith, ints, a, b, l, e)

-- the flow n of the arc was the amount o, which is z less now
less_there : (n o t x m k z : ℤ) → n ≡ o → t ≡ x → t ≡ m → m ≡ k → x ≡ o -ℤ z → k ≡ n -ℤ z
less_there n o t x m k z a b c d e = omega (arith, ints, a, b, c, d, e)

before_last : (n k : ℕ) → n ≡ k + 1 → n - 1 ≡ k
before_last n k e = omega (arith, e)

last_inside : (n k before now : ℕ) → n ≡ k + 1 → before ≡ n → now ≡ before → n - 1 < now
last_inside n k before now e f h = omega (arith, e, f, h)

pub bounds-amounts-count : goal.bounds-amounts-count
bounds-amounts-count g c =
    let p = c.requires.plan in
    omega (arith, p.1.len, p.1.long, c.in_ok-cancel.ensures.lowered.len)

pub cancel-requires-clause-inside : goal.cancel-requires-clause-inside
cancel-requires-clause-inside g c = subst (λ (n : ℕ). AreInside n c.args.ends.now) (sym c.size.ensures) c.requires.plan.1.inside

pub cancel-requires-clause-long : goal.cancel-requires-clause-long
cancel-requires-clause-long g c = c.requires.plan.1.long

pub cancel-requires-clause-amounts : goal.cancel-requires-clause-amounts
cancel-requires-clause-amounts g c = c.requires.plan.1.amounts

pub cancel-requires-clause-balanced : goal.cancel-requires-clause-balanced
cancel-requires-clause-balanced g c = c.requires.plan.1.balanced

pub cancel-requires-clause-excess : goal.cancel-requires-clause-excess
cancel-requires-clause-excess g c = let some = c.requires.some in omega (arith, ints, some)

pub cancel-requires-clause-enough : goal.cancel-requires-clause-enough
cancel-requires-clause-enough g c = c.requires.enough

pub lower_flows-requires-clause-balanced : goal.lower_flows-requires-clause-balanced
lower_flows-requires-clause-balanced g c = balanced_of c.requires.network

pub lower_flows-requires-clause-flowing : goal.lower_flows-requires-clause-flowing
lower_flows-requires-clause-flowing g c =
    let N = g.S.FlowStore.network c.args.store.now in
    let value = g.C.Number.value in
    let p = c.requires.plan in
    let count : p.0 ≡ length c.args.ends.now - 1 = omega (arith, p.1.len) in
    subst (λ (n : ℕ). AreFlowing value n c.args.ends.now c.cancel.new.amounts N) count (plan_flowing value p.0 c.args.ends.now c.args.amounts.now N p.1 _ c.args.through c.cancel.new.amounts c.in_ok-cancel.ensures.lowered)

pub returns : goal.returns
returns g c = record {
  network =
      let N = g.S.FlowStore.network c.args.store.now in
      let M = g.S.FlowStore.network c.lower_flows.new.store in
      let value = g.C.Number.value in
      let p = c.requires.plan in
      let now = c.cancel.new.amounts in
      let l = c.in_ok-cancel.ensures.lowered in
      let w = c.index-amounts-count.result in
      let count : length c.args.ends.now - 1 ≡ p.0 = before_last _ _ p.1.len in
      let last : slice_get now (length c.args.ends.now - 1) ≡ Some w = at_place now _ _ _ (last_inside _ _ _ _ p.1.len p.1.long l.len) (sym c.index-amounts-count.is) in
      let at : slice_get now p.0 ≡ Some w = subst (λ (n : ℕ). slice_get now n ≡ Some w) count last in
      let s = subst (λ (n : ℕ). IsSettled value n c.args.ends.now now N M) count c.lower_flows.ensures.settled in
      network_agrees c.set_total_capacity.ensures (plan_network value p.0 c.args.ends.now c.args.amounts.now N p.1 _ c.args.through now w M c.requires.network (g.met.S.FlowStore.network_law c.args.store.now) c.requires.apart l c.in_ok-cancel.ensures.balanced at s c.lower_flows.ensures.balanced);
  taken =
      λ e f.
      let N = g.S.FlowStore.network c.args.store.now in
      let value = g.C.Number.value in
      let p = c.requires.plan in
      let ends = c.args.ends.now in
      let now = c.cancel.new.amounts in
      let l = c.in_ok-cancel.ensures.lowered in
      let s = c.lower_flows.ensures.settled in
      let after = c.set_total_capacity.ensures in
      let same = capacities_agrees after in
      let w = c.index-amounts-count.result in
      let count : length ends - 1 ≡ p.0 = before_last _ _ p.1.len in
      let last : slice_get now (length ends - 1) ≡ Some w = at_place now _ _ _ (last_inside _ _ _ _ p.1.len p.1.long l.len) (sym c.index-amounts-count.is) in
      let at : slice_get now p.0 ≡ Some w = subst (λ (n : ℕ). slice_get now n ≡ Some w) count last in
      let r = l.each p.0 p.1.total.0 p.1.total.1 in
      let one = one_amount value _ w r.0 at r.1 in
      record {
        kept = capacities_more s.kept (record {
          shape = record { vertices = same.shape.vertices; source = same.shape.source; sink = same.shape.sink; details = same.shape.details; room = same.shape.room };
          capacities = record { at = same.capacities.at };
        });
        lowered =
            let o = c.requires.enough in
            let x = l.exact o.0 o.1 in
            let before = p.1.number c.args.through e o.0 p.2 f o.1 in
            let below : c.args.through < length ends - 1 = omega (arith, p.2, p.1.len) in
            let here = settled_here value (take (length ends - 1) ends) N.flow (take (length ends - 1) now) c.args.through e x.0 (subst (λ (n : ℕ). AreApart (take n ends)) (omega (arith, p.1.len)) p.1.apart) (get_take (length ends - 1) ends c.args.through e below f) (get_take (length ends - 1) now c.args.through x.0 below x.1) in
            less_there _ _ _ _ _ _ _ before here (s.flow.at e.from e.to) (after.flow.at e.from e.to) x.2;
        total = falls _ _ _ _ _ after.total one r.2.1 p.1.total.2;
        excess = not_far _ _ _ _ _ _ after.total one r.2.2 p.1.total.2;
      };
  unchanged = tt;
  refused = tt;
}

pub returns-in_err-cancel : goal.returns-in_err-cancel
returns-in_err-cancel g c = record {
  network = c.requires.network;
  taken = IfOk-from_err _ _ c.from_residual.ensures.0;
  unchanged = MatchResult-from_err _ _ _ c.from_residual.ensures.0 (λ e. agrees_itself (g.S.FlowStore.network c.args.store.now));
  refused = refused_as _ c.from_residual.result _ c.from_residual.ensures.1 c.in_err-cancel.ensures.refused;
}
