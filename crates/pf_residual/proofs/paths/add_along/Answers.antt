use Rattle.std.proofs.Common.{◌≡◌, ◌<◌, ◌+◌, ◌-◌, ◌∙◌, inl, inr, true, arith, subst, sym, ℕ, length}
use Rattle.std.specs.Prelude.{◌<ℤ◌, ◌≤ℤ◌, ◌+ℤ◌, ℤ, pos}
use Rattle.std.proofs.lemmas.Int.{ints}
use Rattle.pf_base.proofs.ListLemmas.{bool_dec}
use Rattle.pf_residual.specs.Networks.{Network, capacity, capacity_sum, with_total, IsNetwork, IsStored}
use Rattle.pf_residual.specs.Internal.AugmentingPaths.{IsLabelling, IsPushed, potential}
use Rattle.pf_residual.proofs.NetworkLemmas.{balanced_of, total_below, fits_near}
use Rattle.pf_residual.proofs.AgreeLemmas.{agreed, network_agrees, shape_agrees, shape_more, capacities_agrees}
use Rattle.pf_residual.proofs.PushLemmas.{pushed_none, levels_none, move_fits_flow, move_fits_flow_back, move_fits_residual, move_fits_residual_back, step_here_in, step_next_in, step_apart, step_enough, pushed_step, pushed_agrees, levels_step, levels_agrees, pushed_network}
use Rattle.pf_residual.proofs.paths.add_along.Goals as goal

low : {n : ℕ} {r : ℕ → ℤ} {z : ℤ} → ((k : ℕ) → k + 1 < n → pos 0 <ℤ r k) → (k : ℕ) × (k + 1 < n) × (z ≡ r k) → pos 0 <ℤ z
low h (k, l, e) = let p = h k l in omega (arith, ints, p, e)

has_room : {N : Network} → IsStored N → (a b : ℕ) → pos 0 <ℤ N.residual a b → N.room a b ≡ true
has_room {N} s a b l = elim (bool_dec (N.room a b)) as (λ _. N.room a b ≡ true) [
  | inl e ↦ e
  | inr e ↦ absurd (let z = (s.empty a b e).0 in omega (arith, ints, l, z))
]

pub add_flow_near-requires-clause-flow : goal.add_flow_near-requires-clause-flow
add_flow_near-requires-clause-flow g c =
    let w = c.requires.path in
    let p = c.loop-place.invariant.pushed in
    let a = low w.left c.least_residual-amount.ensures.reached in
    let k = c.loop-place.place in
    let next : k + 1 < length c.args.path.now = omega arith in
    let b = balanced_of c.requires.network in
    let l = c.least_residual-amount.ensures.least in
    move_fits_flow (λ x y z. g.C.Number.between_law x y z g.met.C.Integral.exact_law) g.met.C.SignedCost.negation_law p.balanced _ _ _ (step_here_in w b _ a l k next p) (step_next_in w b _ a l k next p) (step_apart w b _ a l k next) (omega (arith, ints, a)) (step_enough w b _ a l k next p)

pub add_flow_near-requires-clause-flow_back : goal.add_flow_near-requires-clause-flow_back
add_flow_near-requires-clause-flow_back g c =
    let w = c.requires.path in
    let p = c.loop-place.invariant.pushed in
    let a = low w.left c.least_residual-amount.ensures.reached in
    let k = c.loop-place.place in
    let next : k + 1 < length c.args.path.now = omega arith in
    let b = balanced_of c.requires.network in
    let l = c.least_residual-amount.ensures.least in
    move_fits_flow_back (λ x y z. g.C.Number.between_law x y z g.met.C.Integral.exact_law) g.met.C.SignedCost.negation_law p.balanced _ _ _ (step_here_in w b _ a l k next p) (step_next_in w b _ a l k next p) (step_apart w b _ a l k next) (omega (arith, ints, a)) (step_enough w b _ a l k next p)

pub add_flow_near-requires-clause-residual : goal.add_flow_near-requires-clause-residual
add_flow_near-requires-clause-residual g c =
    let w = c.requires.path in
    let p = c.loop-place.invariant.pushed in
    let a = low w.left c.least_residual-amount.ensures.reached in
    let k = c.loop-place.place in
    let next : k + 1 < length c.args.path.now = omega arith in
    let b = balanced_of c.requires.network in
    let l = c.least_residual-amount.ensures.least in
    move_fits_residual (λ x y z. g.C.Number.between_law x y z g.met.C.Integral.exact_law) g.met.C.SignedCost.negation_law p.balanced _ _ _ (step_here_in w b _ a l k next p) (step_next_in w b _ a l k next p) (step_apart w b _ a l k next) (omega (arith, ints, a)) (step_enough w b _ a l k next p)

pub add_flow_near-requires-clause-residual_back : goal.add_flow_near-requires-clause-residual_back
add_flow_near-requires-clause-residual_back g c =
    let w = c.requires.path in
    let p = c.loop-place.invariant.pushed in
    let a = low w.left c.least_residual-amount.ensures.reached in
    let k = c.loop-place.place in
    let next : k + 1 < length c.args.path.now = omega arith in
    let b = balanced_of c.requires.network in
    let l = c.least_residual-amount.ensures.least in
    move_fits_residual_back (λ x y z. g.C.Number.between_law x y z g.met.C.Integral.exact_law) g.met.C.SignedCost.negation_law p.balanced _ _ _ (step_here_in w b _ a l k next p) (step_next_in w b _ a l k next p) (step_apart w b _ a l k next) (omega (arith, ints, a)) (step_enough w b _ a l k next p)

pub loop-place-preserved : goal.loop-place-preserved
loop-place-preserved g c =
    let w = c.requires.path in
    let p = c.loop-place.invariant.pushed in
    let a = low w.left c.least_residual-amount.ensures.reached in
    let k = c.loop-place.place in
    let next : k + 1 < length c.args.path.now = omega arith in
    let b = balanced_of c.requires.network in
    let l = c.least_residual-amount.ensures.least in
    record {
      pushed = pushed_agrees c.add_flow_near.ensures (pushed_step w b _ a l k next p);
      levels = levels_agrees c.add_flow_near.ensures (levels_step w b _ a l k next p c.loop-place.invariant.levels);
      room = λ x y h. c.add_flow_near.ensures.room x y (c.loop-place.invariant.room x y h);
    }

pub plus-total-requires : goal.plus-total-requires
plus-total-requires g c =
    let w = c.requires.path in
    let a = low w.left c.least_residual-amount.ensures.reached in
    let b = balanced_of c.requires.network in
    let l = c.least_residual-amount.ensures.least in
    let N = g.S.FlowStore.network c.args.store.now in
    let M = g.S.FlowStore.network c.loop-place.store in
    let x = g.C.Number.value c.least_residual-amount.result in
    let end : c.loop-place.place ≡ length c.args.path.now - 1 = omega arith in
    let p = subst (λ k. IsPushed g.C.Number.fits N c.args.path.now x k M) end c.loop-place.invariant.pushed in
    let net = pushed_network w b x a l c.requires.network p (g.met.S.FlowStore.network_law c.args.store.now).source_in in
    let t = p.total in
    let r = c.total_capacity.ensures in
    let top = total_below (g.met.S.FlowStore.network_law c.loop-place.store).source_in net in
    let above = net.above in
    let e : N.total +ℤ x ≡ g.C.Number.value c.total_capacity.result +ℤ x = omega (arith, ints, t, r) in
    subst g.C.Number.fits e (fits_near (λ x y z. g.C.Number.between_law x y z g.met.C.Integral.exact_law) g.met.C.SignedCost.negation_law (capacity_sum M) (N.total +ℤ x) net.sum (omega (arith, ints, top, above)) top)

pub least_residual-amount-requires : goal.least_residual-amount-requires
least_residual-amount-requires g c = record { path = c.requires.path; places_len = c.requires.places_len }

pub loop-place-init : goal.loop-place-init
loop-place-init g c =
    let w = c.requires.path in
    let a = low w.left c.least_residual-amount.ensures.reached in
    let b = balanced_of c.requires.network in
    let l = c.least_residual-amount.ensures.least in
    record { pushed = pushed_none w b _ a l; levels = levels_none w b _ a l; room = λ x y h. h }

pub add_flow_near-requires-clause-apart : goal.add_flow_near-requires-clause-apart
add_flow_near-requires-clause-apart g c =
    let w = c.requires.path in
    let a = low w.left c.least_residual-amount.ensures.reached in
    let k = c.loop-place.place in
    let next : k + 1 < length c.args.path.now = omega arith in
    step_apart w (balanced_of c.requires.network) _ a c.least_residual-amount.ensures.least k next

pub overflow_sub-place-end : goal.overflow_sub-place-end
overflow_sub-place-end g c = omega (arith, c.requires.path.long)

pub bounds-path-place : goal.bounds-path-place
bounds-path-place g c = omega arith

pub offset_bounds-path-place : goal.offset_bounds-path-place
offset_bounds-path-place g c = omega arith

pub overflow_add-place : goal.overflow_add-place
overflow_add-place g c = omega arith

pub bounds-path-place-in-loop-place : goal.bounds-path-place-in-loop-place
bounds-path-place-in-loop-place g c = omega arith

pub offset_bounds-path-place-in-loop-place : goal.offset_bounds-path-place-in-loop-place
offset_bounds-path-place-in-loop-place g c = omega arith

pub add_flow_near-requires-clause-room : goal.add_flow_near-requires-clause-room
add_flow_near-requires-clause-room g c =
    let k = c.loop-place.place in
    c.loop-place.invariant.room _ _ (has_room (g.met.S.FlowStore.network_law c.args.store.now) _ _ (c.requires.path.left k (omega arith)))

pub loop-place-smaller : goal.loop-place-smaller
loop-place-smaller g c = omega arith

pub returns : goal.returns
returns g c = record {
  network =
      let w = c.requires.path in
      let a = low w.left c.least_residual-amount.ensures.reached in
      let b = balanced_of c.requires.network in
      let l = c.least_residual-amount.ensures.least in
      let N = g.S.FlowStore.network c.args.store.now in
      let M = g.S.FlowStore.network c.loop-place.store in
      let x = g.C.Number.value c.least_residual-amount.result in
      let end : c.loop-place.place ≡ length c.args.path.now - 1 = omega arith in
      let p = subst (λ k. IsPushed g.C.Number.fits N c.args.path.now x k M) end c.loop-place.invariant.pushed in
      let net = pushed_network w b x a l c.requires.network p (g.met.S.FlowStore.network_law c.args.store.now).source_in in
      let t = p.total in
      let r = c.total_capacity.ensures in
      let q = c.plus-total.ensures in
      let e : N.total +ℤ x ≡ g.C.Number.value c.plus-total.result = omega (arith, ints, t, r, q) in
      network_agrees c.set_total_capacity.ensures (subst (λ z. IsNetwork g.C.Number.fits (with_total z M)) e net);
  rises = λ d h.
      let N = g.S.FlowStore.network c.args.store.now in
      let (j, k, e) = c.least_residual-amount.ensures.reached in
      subst (λ (O : Network). potential N.vertices (capacity N) N.residual d < potential N.vertices (capacity N) O.residual d) (agreed c.set_total_capacity.ensures)
      (c.loop-place.invariant.levels.raised d j h (omega (arith, k)) k (sym e));
  levels = λ d h v.
      let N = g.S.FlowStore.network c.args.store.now in
      subst (λ (O : Network). IsLabelling N.vertices N.source O.residual d) (agreed c.set_total_capacity.ensures) (c.loop-place.invariant.levels.labelled d h v);
  total =
      let a = low c.requires.path.left c.least_residual-amount.ensures.reached in
      let t = c.loop-place.invariant.pushed.total in
      let r = c.total_capacity.ensures in
      let q = c.plus-total.ensures in
      subst (λ (O : Network). (g.S.FlowStore.network c.args.store.now).total ≤ℤ O.total) (agreed c.set_total_capacity.ensures) (omega (arith, ints, a, t, r, q));
  kept =
      let p = c.loop-place.invariant.pushed in
      let a = capacities_agrees c.set_total_capacity.ensures in
      record {
        shape = shape_more (record { vertices = p.vertices; source = p.source; sink = p.sink; details = p.details; room = c.loop-place.invariant.room }) (shape_agrees c.set_total_capacity.ensures);
        capacities = record { at = λ x y. p.capacities.at x y ∙ a.capacities.at x y };
      };
}
