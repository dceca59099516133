use Rattle.std.proofs.Common.{arith, ℕ, ◌<◌, subst, sym, List, ◌≤◌, length, take_all}
use Rattle.pf_core.specs.Labels.{by_cost, Relaxed}
use Rattle.pf_base.proofs.ListLemmas.{Contains-take, Contains-take_all, Contains-take_here, Contains-here}
use Rattle.pf_core.proofs.LabelLemmas.{Relaxed-more, reached_more}
use Rattle.pf_core.proofs.ReadLemmas.{nearer, none_contained, Relaxed-none}
use Rattle.pf_core.proofs.queue.relax.Goals as goal

pub take_step-requires-clause-inside : goal.take_step-requires-clause-inside
take_step-requires-clause-inside g c =
    subst (λ (n : ℕ). c.steps-item.result.0 < n) (sym c.steps.invariant.relaxed.len) (c.requires.inside c.steps-item.result.0 c.steps-item.result.1 (Contains-here c.args.row.now c.steps.next-index c.steps-item.result c.steps-test.true c.steps-item.is))

pub steps-preserved : goal.steps-preserved
steps-preserved g c =
    let e = c.take_step.ensures in
    record {
      room = omega (arith, c.steps.invariant.room, c.steps-test.true, e.room);
      queue = e.queue;
      relaxed = Relaxed-more (by_cost g.C.Number.value) g.C.Number.value g.C.Number.fits c.args.parent c.args.label.now c.steps-item.result.0 c.steps-item.result.1 _ _ (λ x h. Contains-take c.args.row.now c.steps.next-index x h) (Contains-take_here c.args.row.now c.steps.next-index c.steps-item.result c.steps-test.true c.steps-item.is) _ _ _ e.stepped c.steps.invariant.relaxed;
      reached = reached_more (by_cost g.C.Number.value) g.C.Number.value g.C.Number.fits c.args.parent c.args.label.now c.args.row.now c.steps.next-index c.steps-item.result c.steps-item.is c.steps-test.true _ _ e.stepped c.steps.invariant.reached;
    }

pub take_step-requires-clause-room : goal.take_step-requires-clause-room
take_step-requires-clause-room g c = omega (arith, c.steps.invariant.room, c.steps-test.true)

pub steps-init : goal.steps-init
steps-init g c = record {
  room = omega (arith, c.requires.room);
  queue = c.requires.queue;
  relaxed = Relaxed-none (by_cost g.C.Number.value) g.C.Number.value c.args.parent c.args.label.now c.args.labels.now.items;
  reached = λ j p h. absurd (none_contained (j, p) h);
}

pub take_step-requires-clause-few : goal.take_step-requires-clause-few
take_step-requires-clause-few g c = subst (λ (n : ℕ). n ≤ 4294967296) (sym c.steps.invariant.relaxed.len) c.requires.few

pub take_step-requires-clause-parent : goal.take_step-requires-clause-parent
take_step-requires-clause-parent g c = subst (λ (n : ℕ). c.args.parent < n) (sym c.steps.invariant.relaxed.len) c.requires.parent

pub take_step-requires-clause-queue : goal.take_step-requires-clause-queue
take_step-requires-clause-queue g c = c.steps.invariant.queue

pub steps-smaller : goal.steps-smaller
steps-smaller g c = nearer c.steps.next-index (length c.args.row.now) c.steps-test.true

pub returns : goal.returns
returns g c = record {
  reached = λ j p h f. c.steps.invariant.reached j p (Contains-take_all _ _ _ c.steps-test.false h) f;
  queue = c.steps.invariant.queue;
  relaxed = subst (λ (row : List (ℕ × g.row.C.Denot)). Relaxed (by_cost g.C.Number.value) g.C.Number.value c.args.parent c.args.label.now row c.args.labels.now.items c.steps.labels.items) (take_all c.steps.next-index c.args.row.now c.steps-test.false) c.steps.invariant.relaxed;
}
