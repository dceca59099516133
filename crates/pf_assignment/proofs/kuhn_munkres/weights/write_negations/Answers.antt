use Rattle.std.proofs.Common.{◌≡◌, arith, ap, sym, subst, ◌∙◌, inl, inr}
use Rattle.std.specs.Prelude.{neg_ℤ, slice_set}
use Rattle.pf_base.specs.Places.{number}
use Rattle.pf_assignment.proofs.MatchingNumbers.{number-at, number-set_same, number-set_other, below_or_last}
use Rattle.pf_assignment.proofs.kuhn_munkres.weights.write_negations.Goals as goal

pub negated-requires : goal.negated-requires
negated-requires g c =
    let n = number-at g.C.Number.value c.args.source.now c.loop-k.k c.index-source-k.result (omega arith) c.index-source-k.is in
    subst (λ z. g.C.Number.fits (neg_ℤ z)) n (c.requires.fits c.loop-k.k (omega arith))

pub loop-k-preserved : goal.loop-k-preserved
loop-k-preserved g c = λ k h.
    let value = g.C.Number.value in
    let n = number-at value c.args.source.now c.loop-k.k c.index-source-k.result (omega arith) c.index-source-k.is in
    elim (below_or_last k c.loop-k.k h) as (λ _. number value (slice_set c.loop-k.target c.loop-k.k c.negated.result) k ≡ neg_ℤ (number value c.args.source.now k)) [
      | inl l ↦ number-set_other value c.loop-k.target c.loop-k.k k c.negated.result (λ e. omega (arith, l, e)) ∙ c.loop-k.invariant k l
      | inr e ↦ subst (λ j. number value (slice_set c.loop-k.target c.loop-k.k c.negated.result) j ≡ neg_ℤ (number value c.args.source.now j)) (sym e) (number-set_same value c.loop-k.target c.loop-k.k c.negated.result (omega arith) ∙ c.negated.ensures ∙ ap neg_ℤ (sym n))
    ]
