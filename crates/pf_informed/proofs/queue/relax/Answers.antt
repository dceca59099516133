use Rattle.std.proofs.Common.{arith, ℕ, ◌<◌, ◌≡◌, ◌∙◌, subst, sym, take, inl, inr, [], List}
use Rattle.std.specs.Prelude.{Contains, ◌⊎◌}
use Rattle.std.proofs.lemmas.List.{take_all}
use Rattle.pf_base.proofs.ListLemmas.{Contains-take, Contains-take_more, Contains-take_here, Contains-here}
use Rattle.pf_informed.specs.Internal.Waiting.{Relaxed}
use Rattle.pf_informed.proofs.WaitingLemmas.{Relaxed-start, Relaxed-more}
use Rattle.pf_informed.proofs.queue.relax.Goals as goal

pub steps-init : goal.steps-init
steps-init g c =
    let r = c.requires in
    record {
      room = omega (arith, r.room);
      sound = r.sound;
      here = r.here;
      relaxed = Relaxed-start g.C.Number.value g.C.Number.fits c.args.estimates.now.items c.args.parent (g.C.Number.value c.args.label.now.cost) [] (λ x h. omega (arith, h.1)) c.args.labels.now.items c.args.queue.now.entries;
      less = omega arith;
    }

pub take_step-requires-clause-inside : goal.take_step-requires-clause-inside
take_step-requires-clause-inside g c =
    subst (λ (n : ℕ). c.steps-item.result.0 < n) (sym c.steps.invariant.relaxed.len) (c.requires.steps c.steps-item.result.0 c.steps-item.result.1 (Contains-here c.args.row.now c.steps.next-index c.steps-item.result c.steps-test.true c.steps-item.is)).0

pub take_step-requires-clause-room : goal.take_step-requires-clause-room
take_step-requires-clause-room g c = omega (arith, c.steps.invariant.room, c.steps-test.true)

pub take_step-requires-clause-price : goal.take_step-requires-clause-price
take_step-requires-clause-price g c = (c.requires.steps c.steps-item.result.0 c.steps-item.result.1 (Contains-here c.args.row.now c.steps.next-index c.steps-item.result c.steps-test.true c.steps-item.is)).1

pub steps-preserved : goal.steps-preserved
steps-preserved g c =
    let i = c.steps.invariant in
    let e = c.take_step.ensures in
    let at = c.steps.next-index in
    let item = c.steps-item.result in
    record {
      room = omega (arith, i.room, c.steps-test.true, e.room);
      sound = e.sound;
      here = e.relaxed.own c.args.label.now i.here;
      relaxed = Relaxed-more g.C.Number.value g.C.Number.fits c.args.estimates.now.items c.args.parent (g.C.Number.value c.args.label.now.cost) (take at c.args.row.now) _ item (λ x h. Contains-take c.args.row.now at x h) (Contains-take_here c.args.row.now at item c.steps-test.true c.steps-item.is) (λ x h. elim (Contains-take_more c.args.row.now at item x h) as (λ _. Contains (take at c.args.row.now) x ⊎ (item ≡ x)) [ inl k ↦ inl k | inr q ↦ inr (c.steps-item.is ∙ q) ]) _ _ _ _ _ _ i.relaxed e.relaxed;
      less = omega (arith, i.less, e.less);
    }

pub returns-clause-relaxed : goal.returns-clause-relaxed
returns-clause-relaxed g c = subst (λ (row : List (ℕ × g.row.C.Denot)). Relaxed g.C.Number.value g.C.Number.fits c.args.estimates.now.items c.args.parent (g.C.Number.value c.args.label.now.cost) row c.args.labels.now.items c.steps.labels.items c.args.queue.now.entries c.steps.queue.entries) (take_all c.steps.next-index c.args.row.now c.steps-test.false) c.steps.invariant.relaxed
