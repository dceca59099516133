use Rattle.std.specs.Prelude.{None, Some}
use Rattle.pf_core.specs.Labels.{by_cost}
use Rattle.pf_core.proofs.LabelLemmas.{Stepped-none, Stepped-from}
use Rattle.pf_core.proofs.queue.take_step.Goals as goal

pub returns-in_default-clause-stepped : goal.returns-in_default-clause-stepped
returns-in_default-clause-stepped g c =
    Stepped-none (by_cost g.C.Number.value) g.C.Number.value g.C.Number.fits c.args.parent c.args.label.now c.args.next c.args.price c.args.labels.now.items (g.met.C.CheckedAdd.checked_add_law c.args.label.now.cost c.args.price None c.in_default.ensures)

pub returns-in-Some-clause-stepped : goal.returns-in-Some-clause-stepped
returns-in-Some-clause-stepped g c =
    let w = g.met.C.CheckedAdd.checked_add_law c.args.label.now.cost c.args.price (Some c.in-Some.cost) c.in-Some.ensures in
    Stepped-from (by_cost g.C.Number.value) g.C.Number.value g.C.Number.fits c.args.parent c.args.label.now c.args.next c.args.price c.in-Some.cost _ _ w.0 w.1 c.lower.ensures.lowered
