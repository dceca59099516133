use Rattle.std.proofs.Common.{◌+◌, false, refl, sym, subst}
use Rattle.std.specs.Prelude.{slice_set, Option}
use Rattle.pf_core.specs.declared.labels.Label.{Label}
use Rattle.pf_core.specs.Labels.{by_cost, Lowered}
use Rattle.pf_core.specs.Queue.{IsQueue}
use Rattle.pf_core.proofs.LabelLemmas.{Lowered-none, Lowered-set}
use Rattle.pf_core.proofs.QueueLemmas.{IsQueue-lower}
use Rattle.pf_core.proofs.queue.lower.Goals as goal

pub returns-else-improves-clause-lowered : goal.returns-else-improves-clause-lowered
returns-else-improves-clause-lowered g c =
    let b = rw c.deref.ensures.value at (c.if-improves.ensures) in
    let new : Label g.row.C.Denot = record { cost = c.args.cost; parent = c.args.parent; depth = c.args.label.now.depth + 1; settled = false } in
    Lowered-none (by_cost g.C.Number.value) c.args.labels.now.items c.args.next new refl b.0 b.1 b.2

pub returns-then-improves-clause-queue : goal.returns-then-improves-clause-queue
returns-then-improves-clause-queue g c =
    let new : Label g.row.C.Denot = record { cost = c.args.cost; parent = c.args.parent; depth = c.args.label.now.depth + 1; settled = false } in
    subst (λ (o : Option (Label g.row.C.Denot)). IsQueue g.C.Number.value (slice_set c.args.labels.now.items c.args.next o) c.push_entry.new.queue.items) (sym c.behind.ensures)
    (IsQueue-lower g.C.Number.value c.args.labels.now.items c.args.next new refl c.requires.inside (rw c.deref.ensures.value at (c.if-improves.ensures)) c.args.queue.now.items _ c.requires.queue c.push_entry.ensures.added)

pub returns-then-improves-clause-lowered : goal.returns-then-improves-clause-lowered
returns-then-improves-clause-lowered g c =
    let new : Label g.row.C.Denot = record { cost = c.args.cost; parent = c.args.parent; depth = c.args.label.now.depth + 1; settled = false } in
    subst (λ (o : Option (Label g.row.C.Denot)). Lowered (by_cost g.C.Number.value) c.args.next new c.args.labels.now.items (slice_set c.args.labels.now.items c.args.next o)) (sym c.behind.ensures)
    (Lowered-set (by_cost g.C.Number.value) c.args.labels.now.items c.args.next new refl c.requires.inside (rw c.deref.ensures.value at (c.if-improves.ensures)))
