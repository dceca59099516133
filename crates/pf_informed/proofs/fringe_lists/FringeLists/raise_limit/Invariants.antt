use Rattle.std.proofs.Common.{length}
use Rattle.pf_informed.specs.Internal.Fringe.{listed, IsRaising}
use Rattle.pf_informed.proofs.fringe_lists.FringeLists.raise_limit.Given as goal

abbrev pub invariant-entries : goal.invariant-entries
invariant-entries g l = record {
  raising : IsRaising g.C.Number.value l.labels.items l.estimates.items (listed l.fn.self) l.least l.self.current.items l.self.later.items;
}

abbrev pub decreases-entries : goal.decreases-entries
decreases-entries g l = length l.self.later.items
