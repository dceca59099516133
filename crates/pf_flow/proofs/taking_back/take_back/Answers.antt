use Rattle.std.proofs.Common.{◌≡◌, ◌≢◌, ◌∙◌, ◌++◌, ◌∷◌, [], ℕ, ℤ, pos, Some, List, arith, length, sym, ap, subst}
use Rattle.std.specs.Prelude.{slice_get, ◌≤ℤ◌, ◌<ℤ◌}
use Rattle.std.proofs.lemmas.Int.{ints}
use Rattle.std.proofs.lemmas.Option.{slice_get_within}
use Rattle.std.proofs.lemmas.Result.{IfOk-from_err, MatchResult-from_err}
use Rattle.pf_base.proofs.ListLemmas.{get-append}
use Rattle.pf_residual.specs.declared.cancelling.arcs.Arc.{Arc}
use Rattle.pf_residual.specs.Networks.{Network}
use Rattle.pf_residual.proofs.AgreeLemmas.{agrees_itself}
use Rattle.pf_base.proofs.Outcomes.{on_ok, refused_as, refused_by}
use Rattle.pf_flow.specs.Internal.Changes.{IsTakenBack}
use Rattle.pf_flow.proofs.TakeBackLemmas.{plan_of, amount_there}
use Rattle.pf_flow.proofs.taking_back.take_back.Goals as goal

some_flows : (e f : ℤ) → pos 0 <ℤ e → e ≤ℤ f → pos 0 <ℤ f
some_flows e f l m = omega (arith, ints, l, m)

none_flows : (e f : ℤ) → f ≡ pos 0 → pos 0 <ℤ e → e ≤ℤ f → ⊥
none_flows e f n l m = omega (arith, ints, n, l, m)

enough_there : (e f g x : ℤ) → f ≡ g → f ≡ x → e ≤ℤ g → e ≤ℤ x
enough_there e f g x h k l = omega (arith, ints, h, k, l)

-- what was taken back off the arc of a pair, was off the pair
taken_here : {from to : ℕ} {z : ℤ} (e : Arc) (N M : Network) → IsTakenBack e.from e.to z N M → e.from ≡ from → e.to ≡ to → IsTakenBack from to z N M
taken_here {from} {to} {z} e N M t p q = subst (λ a. IsTakenBack a to z N M) p (subst (λ b. IsTakenBack e.from b z N M) q t)

pub flowing-requires : goal.flowing-requires
flowing-requires g c = c.requires.network

pub number_of-through-requires : goal.number_of-through-requires
number_of-through-requires g c =
    let some = c.requires.some in
    let most = c.requires.most in
    record {
      listed = subst (λ (es : List Arc). (k : ℕ) × (e : Arc) × (slice_get es k ≡ Some e) × (e.from ≡ c.args.from) × (e.to ≡ c.args.to)) (sym c.deref.ensures.value)
          (c.in_ok-ends.ensures.flows.complete c.args.from c.args.to c.requires.from c.requires.to (some_flows _ _ some most));
    }

pub take_back_by-requires-clause-network : goal.take_back_by-requires-clause-network
take_back_by-requires-clause-network g c = c.requires.network

pub take_back_by-requires-clause-apart : goal.take_back_by-requires-clause-apart
take_back_by-requires-clause-apart g c =
    λ q.
    let none = c.requires.network.idle q c.args.from c.args.to in
    let some = c.requires.some in
    let most = c.requires.most in
    none_flows _ _ none some most

pub take_back_by-requires-clause-plan : goal.take_back_by-requires-clause-plan
take_back_by-requires-clause-plan g c =
    let N = g.S.FlowStore.network c.args.store.now in
    let value = g.C.Number.value in
    let ends = c.in_ok-ends.ends.items in
    let xs = c.in_ok-ends.amounts.items in
    let h = c.in_ok-ends.ensures.flows in
    let low = c.requires.some in
    let most = c.requires.most in
    let apart : N.source ≢ N.sink = λ q. none_flows _ _ (c.requires.network.idle q c.args.from c.args.to) low most in
    let sink : c.sink.result ≡ N.sink = c.sink.ensures in
    let source : c.source.result ≡ N.source = c.source.ensures in
    let all : c.deref-2.result.now ≡ ends ++ record { from = N.sink; to = N.source } ∷ [] = c.deref-2.ensures.value ∙ c.in_ok-push.ensures.items ∙ ap (λ (u : ℕ). ends ++ record { from = u; to = c.source.result } ∷ []) sink ∙ ap (λ (u : ℕ). ends ++ record { from = N.sink; to = u } ∷ []) source in
    let ys : c.deref_mut.result.now ≡ xs ++ c.total_capacity.result ∷ [] = c.deref_mut.ensures.value ∙ c.in_ok-push-2.ensures.items in
    let number = c.number_of-through.ensures.number in
    let at : slice_get ends c.number_of-through.result ≡ Some number.0 = ap (λ (es : List Arc). slice_get es c.number_of-through.result) (sym c.deref.ensures.value) ∙ number.1 in (
      length ends,
      plan_of value g.C.Zero.zero (g.met.C.Zero.zero_law g.met.C.Integral.exact_law) N c.requires.network (g.met.S.FlowStore.network_law c.args.store.now) apart ends xs c.total_capacity.result h c.total_capacity.ensures c.deref-2.result.now c.deref_mut.result.now all ys,
      slice_get_within ends c.number_of-through.result number.0 at,
    )

pub take_back_by-requires-clause-some : goal.take_back_by-requires-clause-some
take_back_by-requires-clause-some g c = c.requires.some

pub take_back_by-requires-clause-enough : goal.take_back_by-requires-clause-enough
take_back_by-requires-clause-enough g c =
    let N = g.S.FlowStore.network c.args.store.now in
    let value = g.C.Number.value in
    let ends = c.in_ok-ends.ends.items in
    let xs = c.in_ok-ends.amounts.items in
    let h = c.in_ok-ends.ensures.flows in
    let k = c.number_of-through.result in
    let number = c.number_of-through.ensures.number in
    let at : slice_get ends k ≡ Some number.0 = ap (λ (es : List Arc). slice_get es k) (sym c.deref.ensures.value) ∙ number.1 in
    let ys : c.deref_mut.result.now ≡ xs ++ c.total_capacity.result ∷ [] = c.deref_mut.ensures.value ∙ c.in_ok-push-2.ensures.items in
    let there = amount_there value N ends xs h k number.0 at in
    let from : N.flow number.0.from number.0.to ≡ N.flow c.args.from c.args.to = ap (λ (u : ℕ). N.flow u number.0.to) number.2 ∙ ap (λ (u : ℕ). N.flow c.args.from u) number.3 in
    let n = there.2 in
    let most = c.requires.most in
    (there.0, ap (λ us. slice_get us k) ys ∙ get-append xs (c.total_capacity.result ∷ []) k there.0 there.1, enough_there _ _ _ _ from n most)

pub returns : goal.returns
returns g c = record {
  network = c.take_back_by.ensures.network;
  taken =
      on_ok c.take_back_by.result c.take_back_by.ensures.taken (λ f.
      let k = c.number_of-through.result in
      let ends = c.in_ok-ends.ends.items in
      let number = c.number_of-through.ensures.number in
      let at : slice_get ends k ≡ Some number.0 = ap (λ (es : List Arc). slice_get es k) (sym c.deref.ensures.value) ∙ number.1 in
      let here : slice_get c.deref-2.result.now k ≡ Some number.0 = ap (λ (es : List Arc). slice_get es k) (c.deref-2.ensures.value ∙ c.in_ok-push.ensures.items) ∙ get-append ends _ k number.0 at in
      taken_here _ _ _ (f number.0 here) number.2 number.3);
  unchanged = c.take_back_by.ensures.unchanged;
  refused = c.take_back_by.ensures.refused;
}

pub returns-in_err-ends : goal.returns-in_err-ends
returns-in_err-ends g c = record {
  network = c.requires.network;
  taken = IfOk-from_err _ _ c.from_residual.ensures.0;
  unchanged = MatchResult-from_err _ _ _ c.from_residual.ensures.0 (λ e. agrees_itself (g.S.FlowStore.network c.args.store.now));
  refused = refused_as _ c.from_residual.result _ c.from_residual.ensures.1 c.in_err-ends.ensures.refused;
}

pub returns-in_err-push : goal.returns-in_err-push
returns-in_err-push g c = record {
  network = c.requires.network;
  taken = IfOk-from_err _ _ c.from_residual-in_err-push.ensures.0;
  unchanged = MatchResult-from_err _ _ _ c.from_residual-in_err-push.ensures.0 (λ e. agrees_itself (g.S.FlowStore.network c.args.store.now));
  refused = refused_by _ c.from_residual-in_err-push.result c.from_residual-in_err-push.ensures.1;
}

pub returns-in_err-push-2 : goal.returns-in_err-push-2
returns-in_err-push-2 g c = record {
  network = c.requires.network;
  taken = IfOk-from_err _ _ c.from_residual-in_err-push-2.ensures.0;
  unchanged = MatchResult-from_err _ _ _ c.from_residual-in_err-push-2.ensures.0 (λ e. agrees_itself (g.S.FlowStore.network c.args.store.now));
  refused = refused_by _ c.from_residual-in_err-push-2.result c.from_residual-in_err-push-2.ensures.1;
}
