use Rattle.std.proofs.Common.{◌≡◌, sym, subst, ap, ◌∙◌, ◌<◌, length, ℕ, All, Some}
use Rattle.std.specs.Prelude.{slice_get}
use Rattle.std.proofs.lemmas.Option.{slice_get-get_or}
use Rattle.std.proofs.lemmas.Result.{IfOk-weaker}
use Rattle.pf_components.specs.Internal.DisjointSets.{HaveRows}
use Rattle.pf_components.proofs.PairLemmas.{first_id_below}
use Rattle.pf_components.proofs.connected_components.node_rows.Goals as goal

pub collect_nodes-requires-clause-inside : goal.collect_nodes-requires-clause-inside
collect_nodes-requires-clause-inside g c = λ k d h.
    let p = c.in_ok-united.ensures.united in
    let n : length c.deref-2.result.now ≡ length p.0 = ap length c.deref-2.ensures.value ∙ p.3 ∙ sym p.4 in
    rw n (subst (λ xs. All (λ (m : ℕ). m < length p.0) xs) (sym c.deref.ensures.value) (λ i e l. p.1.inside i _ (slice_get-get_or c.in_ok-united.united.first.items i e l)) k d h)

pub collect_nodes-requires-clause-below : goal.collect_nodes-requires-clause-below
collect_nodes-requires-clause-below g c =
    let p = c.in_ok-united.ensures.united in
    subst (λ is. All (λ (m : ℕ). (id : ℕ) → slice_get is m ≡ Some id → id < length is) c.deref.result.now) (sym c.deref-2.ensures.value)
    (subst (λ fs. All (λ (m : ℕ). (id : ℕ) → slice_get c.in_ok-united.united.ids.items m ≡ Some id → id < length c.in_ok-united.united.ids.items) fs) (sym c.deref.ensures.value)
    (first_id_below g.met.N.Eq.laws c.args.groups.now c.in_ok-united.united.nodes.keys c.in_ok-united.united.first.items p.0 p.1 c.in_ok-united.united.ids.items p.2 p.3))

pub returns : goal.returns
returns g c = record {
  rows =
      let u = c.in_ok-united.united in
      IfOk-weaker c.collect_nodes.result _ _ (λ rows laid.
      let here : HaveRows u.nodes.keys u.first.items u.ids.items rows =
      subst (λ ns. HaveRows ns u.first.items u.ids.items rows) c.as_slice.ensures.keys
      (subst (λ fs. HaveRows c.as_slice.result.now fs u.ids.items rows) c.deref.ensures.value
      (subst (λ is. HaveRows c.as_slice.result.now c.deref.result.now is rows) c.deref-2.ensures.value laid)) in
      (u.nodes.keys, u.first.items, u.ids.items, c.in_ok-united.ensures.united, here)) c.collect_nodes.ensures.collected;
  refused = c.collect_nodes.ensures.refused;
}

pub collect_nodes-requires-clause-len : goal.collect_nodes-requires-clause-len
collect_nodes-requires-clause-len g c = ap length c.deref.ensures.value ∙ c.in_ok-united.ensures.united.1.len ∙ sym (ap length c.as_slice.ensures.keys)
