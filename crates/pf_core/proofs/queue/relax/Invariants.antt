use Rattle.std.proofs.Common.{ℕ, ◌+◌, ◌-◌, ◌≤◌, length, take}
use Rattle.std.specs.Prelude.{Contains, ◌+ℤ◌}
use Rattle.pf_core.specs.Labels.{Relaxed, Covers}
use Rattle.pf_core.specs.Labels.{by_cost}
use Rattle.pf_core.specs.Queue.{IsQueue}
use Rattle.pf_core.proofs.queue.relax.Given as goal

abbrev pub invariant-steps : goal.invariant-steps
invariant-steps g l = record {
  room : length l.row - l.next-index ≤ l.queue.room;
  queue : IsQueue g.C.Number.value l.labels.items l.queue.items;
  relaxed : Relaxed (by_cost g.C.Number.value) g.C.Number.value l.parent l.label (take l.next-index l.row) l.fn.labels.items l.labels.items;
  reached : (j : ℕ) (c : g.row.C.Denot) → Contains (take l.next-index l.row) (j, c) → g.C.Number.fits (g.C.Number.value l.label.cost +ℤ g.C.Number.value c) → Covers (by_cost g.C.Number.value) g.C.Number.value l.label l.labels.items j c;
}
