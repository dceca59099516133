use Rattle.std.proofs.Common.{◌≡◌, ◌∙◌, ◌<◌, ◌+◌, ℕ, pos, List, length, take, sym, ap, subst, arith, Some, slice_get, inl, inr}
use Rattle.std.specs.Prelude.{◌⊎◌, ◌+ℤ◌, Contains}
use Rattle.std.proofs.lemmas.Result.{IfOk-weaker, IfOk-from_err}
use Rattle.pf_core.specs.Labels.{Labels, IsChain, IsTree}
use Rattle.pf_core.proofs.PathLemmas.{tree_climbs}
use Rattle.pf_both_ends.specs.Internal.BothEnds.{NoneBelowAt, AreHalves}
use Rattle.pf_both_ends.proofs.BothEndsChains.{chain_labelled, chain_last, chain_front, take_inside, last_of_take, past_sum, place_fits}
use Rattle.pf_core.proofs.ReadLemmas.{still_at}
use Rattle.pf_base.proofs.Outcomes.{refused_as}
use Rattle.pf_both_ends.proofs.dijkstra.path_through.Goals as goal

pub path_to-requires : goal.path_to-requires
path_to-requires g c = let w = c.requires.meets in tree_climbs _ (subst IsTree (sym c.deref.ensures.value) c.requires.trees.0) c.args.best.here (w.here, still_at _ _ c.deref.ensures.value c.args.best.here w.here w.labelled_here)

pub first_on-first-requires-clause-inside : goal.first_on-first-requires-clause-inside
first_on-first-requires-clause-inside g c = λ k h.
    subst (λ (n : ℕ). k < n) (ap length c.deref.ensures.value ∙ c.requires.wide_forth) (c.in_ok-numbers.ensures.inside k (subst (λ (ks : List ℕ). Contains ks k) c.deref-2.ensures.value h))

pub first_on-first-requires-clause-labelled : goal.first_on-first-requires-clause-labelled
first_on-first-requires-clause-labelled g c = λ k h.
    let numbers = c.in_ok-numbers.numbers.items in
    chain_labelled c.args.forth.now.labels.items c.args.best.here numbers (subst (λ (ls : Labels g.row.C.Denot). IsChain ls c.args.best.here numbers) c.deref.ensures.value c.in_ok-numbers.ensures.chain) k (subst (λ (ks : List ℕ). Contains ks k) c.deref-2.ensures.value h)

pub unreachable-requires : goal.unreachable-requires
unreachable-requires g c =
    let w = c.requires.meets in
    let numbers = c.in_ok-numbers.numbers.items in
    let last = chain_last c.args.forth.now.labels.items c.args.best.here numbers (subst (λ (ls : Labels g.row.C.Denot). IsChain ls c.args.best.here numbers) c.deref.ensures.value c.in_ok-numbers.ensures.chain) in
    let low = c.in_default.ensures.first c.args.best.here (subst (λ (ks : List ℕ). Contains ks c.args.best.here) (sym c.deref-2.ensures.value) last) c.args.best.across w.here w.across w.node w.stands_here w.stands_across w.labelled_here w.labelled_across
    (c.requires.costs c.args.best.here w.here (inl w.labelled_here)) (c.requires.costs c.args.best.across w.across (inr w.labelled_across)) in
    past_sum (g.C.Number.value w.here.cost) (g.C.Number.value w.across.cost) (g.C.Number.value c.args.best.cost) low w.sum

pub overflow_add-place : goal.overflow_add-place
overflow_add-place g c =
    let numbers = c.in_ok-numbers.numbers in
    omega (arith, place_fits numbers.items c.in-Some.place c.in-Some.meeting.here _ _ (subst (λ (ks : List ℕ). slice_get ks c.in-Some.place ≡ Some c.in-Some.meeting.here) c.deref-2.ensures.value c.in-Some.ensures.first.0) numbers.ok numbers.small)

pub path_to-requires-2 : goal.path_to-requires-2
path_to-requires-2 g c = let w = c.in-Some.ensures.first.1 in tree_climbs _ (subst IsTree (sym c.deref-3.ensures.value) c.requires.trees.1) c.in-Some.meeting.across (w.across, still_at _ _ c.deref-3.ensures.value c.in-Some.meeting.across w.across w.labelled_across)

pub nodes_along-requires-clause-forth : goal.nodes_along-requires-clause-forth
nodes_along-requires-clause-forth g c = λ k h.
    subst (λ (n : ℕ). k < n) (ap length c.deref.ensures.value ∙ c.requires.wide_forth) (c.in_ok-numbers.ensures.inside k (take_inside c.in_ok-numbers.numbers.items (c.in-Some.place + 1) k (subst (λ (ks : List ℕ). Contains ks k) c.truncate.ensures.items h)))

pub nodes_along-requires-clause-back : goal.nodes_along-requires-clause-back
nodes_along-requires-clause-back g c = λ k h. subst (λ (n : ℕ). k < n) (ap length c.deref-3.ensures.value ∙ c.requires.wide_back) (c.in_ok-back_numbers.ensures.inside k h)

pub nodes_along-requires-clause-clones : goal.nodes_along-requires-clause-clones
nodes_along-requires-clause-clones g c = c.requires.clones

pub returns-in_err-back_numbers : goal.returns-in_err-back_numbers
returns-in_err-back_numbers g c = record {
  path = IfOk-from_err _ _ c.from_residual-in_err-back_numbers.ensures.0;
  refused = refused_as _ c.from_residual-in_err-back_numbers.result c.in_err-back_numbers.field-0.0 c.from_residual-in_err-back_numbers.ensures.1 c.in_err-back_numbers.ensures.refused;
}

pub returns-in_err-numbers : goal.returns-in_err-numbers
returns-in_err-numbers g c = record {
  path = IfOk-from_err _ _ c.from_residual.ensures.0;
  refused = refused_as _ c.from_residual.result c.in_err-numbers.field-0.0 c.from_residual.ensures.1 c.in_err-numbers.ensures.refused;
}

pub first_on-first-requires-clause-one : goal.first_on-first-requires-clause-one
first_on-first-requires-clause-one g c = c.requires.one

pub first_on-first-requires-clause-wide : goal.first_on-first-requires-clause-wide
first_on-first-requires-clause-wide g c = c.requires.wide_back

pub returns : goal.returns
returns g c = record {
  path =
      let eq = g.N.PartialEq.eq in
      let value = g.C.Number.value in
      let numbers = c.in_ok-numbers.numbers.items in
      let place = c.in-Some.place in
      let here = c.in-Some.meeting.here in
      let keys = g.M.Numbering.keys c.args.graph.now.forth.nodes in
      let others = g.M.Numbering.keys c.args.graph.now.back.nodes in
      let labels = c.args.forth.now.labels.items in
      let labels' = c.args.back.now.labels.items in
      let f = c.in-Some.ensures.first in
      let at : slice_get numbers place ≡ Some here = subst (λ (ks : List ℕ). slice_get ks place ≡ Some here) c.deref-2.ensures.value f.0 in
      let chain : IsChain labels c.args.best.here numbers = subst (λ (ls : Labels g.row.C.Denot). IsChain ls c.args.best.here numbers) c.deref.ensures.value c.in_ok-numbers.ensures.chain in
      let cut : AreHalves eq value keys others labels labels' (value c.args.best.cost) (take (place + 1) numbers) c.in_ok-back_numbers.back_numbers.items = record {
        meeting = c.in-Some.meeting;
        meets = f.1;
        low = f.2;
        chain = chain_front labels c.args.best.here numbers chain place here at;
        chain_back = subst (λ (ls : Labels g.row.C.Denot). IsChain ls c.in-Some.meeting.across c.in_ok-back_numbers.back_numbers.items) c.deref-3.ensures.value c.in_ok-back_numbers.ensures.chain;
        first = λ k h. elim (last_of_take numbers place here at k h) as (λ _. (k ≡ here) ⊎ NoneBelowAt eq value keys others labels labels' (value c.args.best.cost +ℤ pos 1) k) [
          | inl e ↦ inl e
          | inr r ↦ inr (f.3 k (subst (λ (ks : List ℕ). Contains (take place ks) k) (sym c.deref-2.ensures.value) r))
        ];
      } in
      let halves = subst (λ (ks : List ℕ). AreHalves eq value keys others labels labels' (value c.args.best.cost) ks c.in_ok-back_numbers.back_numbers.items) (sym c.truncate.ensures.items) cut in
      IfOk-weaker c.nodes_along.result _ _ (λ path n. (c.truncate.new.self.items, c.in_ok-back_numbers.back_numbers.items, n.0, n.1, halves, n.2, n.3, n.4)) c.nodes_along.ensures.nodes;
  refused = c.nodes_along.ensures.refused;
}
