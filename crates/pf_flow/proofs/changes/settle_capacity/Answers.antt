use Rattle.std.proofs.Common.{◌≡◌, ◌∙◌, ◌+ℤ◌, ℤ, arith, pos, sym, ap, subst}
use Rattle.std.specs.Prelude.{◌-ℤ◌, ◌≤ℤ◌, neg_ℤ}
use Rattle.std.proofs.lemmas.Int.{ints}
use Rattle.pf_residual.specs.Flows.{added, pair_sum}
use Rattle.pf_residual.specs.Networks.{Network, capacity, with_residual, Agrees}
use Rattle.pf_residual.proofs.AddedLemmas.{added_here}
use Rattle.pf_residual.proofs.AgreeLemmas.{agreed, network_agrees, shape_agrees, capacities_agrees}
use Rattle.pf_residual.proofs.ChangeLemmas.{raise, set_is, network_set, added_sum, replaced_sum, agrees_more}
use Rattle.pf_residual.proofs.ChangeSums.{residual_sum}
use Rattle.pf_residual.proofs.NetworkLemmas.{balanced_of, capacity_fits, residual_fits}
use Rattle.pf_flow.proofs.changes.settle_capacity.Goals as goal

pub minus-requires : goal.minus-requires
minus-requires g c =
    let exact = g.met.C.Integral.exact_law in
    let between = λ (x y z : ℤ). g.C.Number.between_law x y z exact in
    let N = g.S.FlowStore.network c.args.store.now in
    let w = c.requires.network in
    let old = capacity N c.args.from c.args.to in
    let fit = capacity_fits between g.met.C.SignedCost.negation_law (balanced_of w) c.args.from c.args.to c.requires.from c.requires.to in
    let above : pos 0 ≤ℤ old = w.capacities.at c.args.from c.args.to c.requires.from c.requires.to in
    let is = c.requires.planned.old in
    let low = c.requires.planned.low in
    between (neg_ℤ old) _ (g.C.Number.value c.args.number) (g.met.C.SignedCost.negation_law old fit above) c.known.ensures (omega (arith, ints, is, low)) (omega (arith, ints, is, above))

pub add_residual_capacity-requires-clause-fits : goal.add_residual_capacity-requires-clause-fits
add_residual_capacity-requires-clause-fits g c =
    let exact = g.met.C.Integral.exact_law in
    let between = λ (x y z : ℤ). g.C.Number.between_law x y z exact in
    let N = g.S.FlowStore.network c.args.store.now in
    let z = g.C.Number.value c.args.number in
    let w = network_set N c.args.from c.args.to z c.requires.network c.requires.flow c.requires.planned.low (subst g.C.Number.fits c.requires.planned.sum c.known-2.ensures) in
    let more : raise N c.args.from c.args.to z c.requires.network ≡ g.C.Number.value c.minus.result = sym (c.minus.ensures ∙ ap (λ x. z -ℤ x) c.requires.planned.old) in
    subst g.C.Number.fits
    (added_here N.residual c.args.from c.args.to _ ∙ ap (λ x. N.residual c.args.from c.args.to +ℤ x) more)
    (residual_fits between g.met.C.SignedCost.negation_law (balanced_of w) c.args.from c.args.to c.requires.from c.requires.to)

pub note_sum-requires : goal.note_sum-requires
note_sum-requires g c =
    let N = g.S.FlowStore.network c.args.store.now in
    let from = c.args.from in
    let to = c.args.to in
    let value = g.C.Number.value in
    let x = value c.minus.result in
    let same : pair_sum N.vertices (added N.residual from to x) ≡ pair_sum (g.S.FlowStore.network c.add_residual_capacity.new.self).vertices (g.S.FlowStore.network c.add_residual_capacity.new.self).residual =
    ap (λ (M : Network). pair_sum M.vertices M.residual) (agreed c.add_residual_capacity.ensures) in
    let left = added_sum N.residual from to x N.vertices c.requires.from c.requires.to in
    let all = residual_sum (balanced_of c.requires.network) in
    let after = replaced_sum (capacity N) from to (value c.args.number) N.vertices c.requires.from c.requires.to in
    let old = c.requires.planned.old in
    let more = c.minus.ensures in
    let sum = c.requires.planned.sum in
    let known : value c.args.sum ≡ pair_sum N.vertices (added N.residual from to x) = omega (arith, ints, left, all, after, old, more, sum) in
    known ∙ same

pub returns : goal.returns
returns g c =
    let N = g.S.FlowStore.network c.args.store.now in
    let z = g.C.Number.value c.args.number in
    let more : raise N c.args.from c.args.to z c.requires.network ≡ g.C.Number.value c.minus.result = sym (c.minus.ensures ∙ ap (λ x. z -ℤ x) c.requires.planned.old) in
    record {
      network =
          let after = subst (λ x. Agrees (with_residual c.args.from c.args.to x N) (g.S.FlowStore.network c.add_residual_capacity.new.self)) (sym more) c.add_residual_capacity.ensures in
          network_agrees (agrees_more after c.note_sum.ensures) (network_set N c.args.from c.args.to z c.requires.network c.requires.flow c.requires.planned.low (subst g.C.Number.fits c.requires.planned.sum c.known-2.ensures));
      set = record {
        changed =
            let after = agrees_more (subst (λ x. Agrees (with_residual c.args.from c.args.to x N) (g.S.FlowStore.network c.add_residual_capacity.new.self)) (sym more) c.add_residual_capacity.ensures) c.note_sum.ensures in
            let shape = shape_agrees after in
            record {
              shape = record { vertices = shape.vertices; source = shape.source; sink = shape.sink; details = shape.details; room = shape.room };
              capacities = record { at = λ a b. set_is N c.args.from c.args.to z c.requires.network a b ∙ (capacities_agrees after).capacities.at a b };
            };
        flows = record { at = λ a b. c.add_residual_capacity.ensures.flow.at a b ∙ c.note_sum.ensures.flow.at a b };
        total = c.note_sum.ensures.total ∙ c.add_residual_capacity.ensures.total;
      };
    }
