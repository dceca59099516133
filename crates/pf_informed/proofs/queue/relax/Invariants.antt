use Rattle.std.proofs.Common.{◌+◌, ◌-◌, ◌*◌, ◌≤◌, length, take}
use Rattle.pf_core.specs.Labels.{HasLabel}
use Rattle.pf_informed.specs.Internal.Forest.{nat_of, total_room}
use Rattle.pf_informed.specs.Internal.Waiting.{IsSound, Relaxed}
use Rattle.pf_informed.proofs.queue.relax.Given as goal

abbrev pub invariant-steps : goal.invariant-steps
invariant-steps g l = record {
  room : length l.row - l.next-index ≤ l.queue.room;
  sound : IsSound g.C.Number.value g.C.Number.fits l.labels.items l.estimates.items l.queue.entries;
  here : HasLabel l.labels.items l.parent l.label;
  relaxed : Relaxed g.C.Number.value g.C.Number.fits l.estimates.items l.parent (g.C.Number.value l.label.cost) (take l.next-index l.row) l.fn.labels.items l.labels.items l.fn.queue.entries l.queue.entries;
  less : 2 * total_room g.C.Number.value (nat_of (g.C.Number.value g.C.Cost.greatest)) l.labels.items + length l.queue.entries ≤ 2 * total_room g.C.Number.value (nat_of (g.C.Number.value g.C.Cost.greatest)) l.fn.labels.items + length l.fn.queue.entries;
}
