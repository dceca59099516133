use Rattle.std.proofs.Common.{◌≡◌, ◌<◌, ℕ, refl, sym, subst, length, inl, inr}
use Rattle.pf_base.proofs.ListLemmas.{at_place}
use Rattle.pf_graph.proofs.Spanning.ChainLemmas.{IsStepAt-onward, IsStepAt-backward}
use Rattle.pf_graph.specs.Internal.Spanning.Chained.{IsLastBefore}
use Rattle.pf_graph.proofs.undirected.chains.Chains.step.Goals as goal

pub returns-then-one-from-clause-step : goal.returns-then-one-from-clause-step
returns-then-one-from-clause-step g c =
    let inside : c.args.place < length c.args.self.now.edges.now = subst (λ (n : ℕ). c.args.place < n) (sym c.requires.chained.long) c.requires.inside in
    IsStepAt-onward c.args.self.now c.args.place c.args.from _ _ c.index.result.now (at_place _ _ _ _ inside refl) (at_place _ _ _ _ c.requires.inside (sym c.index.ensures)) c.if-one-from.true (refl, refl)

pub returns-then-one-from-clause-earlier : goal.returns-then-one-from-clause-earlier
returns-then-one-from-clause-earlier g c =
    let ends = c.index.result.now in
    subst (λ (k : ℕ). IsLastBefore c.args.self.now.ends.items k c.args.place ends.0.earlier) c.if-one-from.true (c.requires.chained.linked.one c.args.place ends (at_place _ _ _ _ c.requires.inside (sym c.index.ensures)))

pub returns-else-one-from-clause-step : goal.returns-else-one-from-clause-step
returns-else-one-from-clause-step g c =
    let inside : c.args.place < length c.args.self.now.edges.now = subst (λ (n : ℕ). c.args.place < n) (sym c.requires.chained.long) c.requires.inside in
    let ends = c.index.result.now in
    let ends_at = at_place _ _ _ _ c.requires.inside (sym c.index.ensures) in
    let here : ends.1.number ≡ c.args.from = elim (c.requires.at ends ends_at) [ inl e ↦ absurd (c.if-one-from.false e) | inr e ↦ e ] in
    IsStepAt-backward c.args.self.now c.args.place c.args.from _ _ ends (at_place _ _ _ _ inside refl) ends_at c.if-one-from.false here (refl, refl)

pub returns-else-one-from-clause-earlier : goal.returns-else-one-from-clause-earlier
returns-else-one-from-clause-earlier g c =
    let ends = c.index.result.now in
    let ends_at = at_place _ _ _ _ c.requires.inside (sym c.index.ensures) in
    let here : ends.1.number ≡ c.args.from = elim (c.requires.at ends ends_at) [ inl e ↦ absurd (c.if-one-from.false e) | inr e ↦ e ] in
    subst (λ (k : ℕ). IsLastBefore c.args.self.now.ends.items k c.args.place ends.1.earlier) here (c.requires.chained.linked.other c.args.place ends ends_at)
