use Rattle.std.proofs.Common.{◌≡◌, ◌∙◌, ◌<◌, ℕ, ℤ, arith, inl, subst, sym}
use Rattle.std.specs.Prelude.{◌≤ℤ◌, ◌+ℤ◌}
use Rattle.std.proofs.lemmas.Int.{ints}
use Rattle.std.proofs.lemmas.Result.{IfOk-from_err, MatchResult-from_err}
use Rattle.pf_residual.specs.Capacities.{IsChangeRefused}
use Rattle.pf_residual.specs.Networks.{Network, Agrees, KeepsCapacities}
use Rattle.pf_residual.proofs.AgreeLemmas.{agrees_itself, network_agrees, capacities_agrees, capacities_more}
use Rattle.pf_residual.proofs.ChangeLemmas.{agrees_more, changed_after, same_sum}
use Rattle.pf_base.proofs.Outcomes.{refused_as}
use Rattle.pf_flow.specs.Internal.Changes.{IsPlanned, IsLoweredTo, SetsCapacity, IsChanged}
use Rattle.pf_flow.proofs.changes.change_capacity.Goals as goal

total_falls : (n m k l : ℤ) → m ≡ n → k ≤ℤ m → l ≡ k → l ≤ℤ n
total_falls n m k l e h f = omega (arith, ints, e, h, f)

total_near : (n m k l c u v : ℤ) → m ≡ n → u ≡ v → (m +ℤ c) ≤ℤ (k +ℤ v) → l ≡ k → (n +ℤ c) ≤ℤ (l +ℤ u)
total_near n m k l c u v e s h f = omega (arith, ints, e, s, h, f)

-- M is N with room; in L the flow was taken back, and in O the capacity is set
module _ (from to : ℕ) (c : ℤ) {N M L : Network} (same : Agrees N M) (low : IsLoweredTo from to c M L) where
  kept : KeepsCapacities N L
  kept = capacities_more (capacities_agrees same) low.capacities

  planned_still : {before after : ℤ} → IsPlanned from to before c after N → IsPlanned from to before c after L
  planned_still p = record {
    old = p.old ∙ kept.capacities.at from to;
    low = p.low;
    sum = p.sum ∙ sym (same_sum from to c kept);
  }

  changed_by : {O : Network} → SetsCapacity from to c L O → IsChanged from to c N O
  changed_by s = record {
    changed = changed_after kept s.changed;
    kept = λ h. (let k = low.kept (subst (λ z. z ≤ℤ c) (same.flow.at from to) h) in record { at = λ a b. same.flow.at a b ∙ k.at a b ∙ s.flows.at a b });
    total = total_falls _ _ _ _ same.total low.total s.total;
    excess = λ h. total_near _ _ _ _ _ _ _ same.total (same.flow.at from to) (low.excess (subst (λ z. c ≤ℤ z) (same.flow.at from to) h)) s.total;
  }

pub lower_to-requires-clause-network : goal.lower_to-requires-clause-network
lower_to-requires-clause-network g c = network_agrees c.make_room.ensures.same c.requires.network

pub lower_to-requires-clause-from : goal.lower_to-requires-clause-from
lower_to-requires-clause-from g c = subst (λ n. c.args.from < n) (sym c.make_room.ensures.same.vertices) c.requires.from

pub lower_to-requires-clause-to : goal.lower_to-requires-clause-to
lower_to-requires-clause-to g c = subst (λ n. c.args.to < n) (sym c.make_room.ensures.same.vertices) c.requires.to

pub lower_to-requires-clause-low : goal.lower_to-requires-clause-low
lower_to-requires-clause-low g c = c.in_ok-old.ensures.planned.low

pub settle_capacity-requires : goal.settle_capacity-requires
settle_capacity-requires g c =
    let same = c.make_room.ensures.same in
    let lowered = c.in_ok-lower_to.ensures.lowered in
    let vertices = sym (lowered.capacities.shape.vertices ∙ same.vertices) in
    record {
      network = c.lower_to.ensures.network;
      from = subst (λ n. c.args.from < n) vertices c.requires.from;
      to = subst (λ n. c.args.to < n) vertices c.requires.to;
      room = lowered.capacities.shape.room c.args.from c.args.to c.in_ok-make_room.ensures.room;
      planned = planned_still c.args.from c.args.to _ same lowered c.in_ok-old.ensures.planned;
      flow = lowered.lowered;
    }

pub returns : goal.returns
returns g c = record {
  network = c.settle_capacity.ensures.network;
  changed = changed_by c.args.from c.args.to _ c.make_room.ensures.same c.in_ok-lower_to.ensures.lowered c.settle_capacity.ensures.set;
  unchanged = tt;
  refused = tt;
}

pub returns-in_err-old : goal.returns-in_err-old
returns-in_err-old g c = record {
  network = c.requires.network;
  changed = IfOk-from_err _ _ c.from_residual.ensures.0;
  unchanged = MatchResult-from_err _ _ _ c.from_residual.ensures.0 (λ e. agrees_itself (g.S.FlowStore.network c.args.store.now));
  refused = refused_as _ c.from_residual.result _ c.from_residual.ensures.1 c.in_err-old.ensures.refused;
}

pub returns-in_err-make_room : goal.returns-in_err-make_room
returns-in_err-make_room g c = record {
  network = network_agrees c.make_room.ensures.same c.requires.network;
  changed = IfOk-from_err _ _ c.from_residual-in_err-make_room.ensures.0;
  unchanged = MatchResult-from_err _ _ _ c.from_residual-in_err-make_room.ensures.0 (λ e. c.make_room.ensures.same);
  refused =
      let why : IsChangeRefused g.C.Number.fits (g.S.FlowStore.network c.args.store.now) c.args.from c.args.to (g.C.Number.value c.args.capacity) c.in_err-make_room.field-0.0 = inl c.in_err-make_room.ensures.refused in
      refused_as _ c.from_residual-in_err-make_room.result _ c.from_residual-in_err-make_room.ensures.1 why;
}

pub returns-in_err-lower_to : goal.returns-in_err-lower_to
returns-in_err-lower_to g c = record {
  network = c.lower_to.ensures.network;
  changed = IfOk-from_err _ _ c.from_residual-in_err-lower_to.ensures.0;
  unchanged = MatchResult-from_err _ _ _ c.from_residual-in_err-lower_to.ensures.0 (λ e. agrees_more c.make_room.ensures.same c.in_err-lower_to.ensures.unchanged);
  refused =
      let why : IsChangeRefused g.C.Number.fits (g.S.FlowStore.network c.args.store.now) c.args.from c.args.to (g.C.Number.value c.args.capacity) c.in_err-lower_to.field-0.0 = inl c.in_err-lower_to.ensures.refused in
      refused_as _ c.from_residual-in_err-lower_to.result _ c.from_residual-in_err-lower_to.ensures.1 why;
}
