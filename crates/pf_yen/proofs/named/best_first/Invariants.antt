use Rattle.std.proofs.Common.{◌≡◌, take}
use Rattle.pf_yen.specs.Internal.Adjacency.{row_of}
use Rattle.pf_yen.specs.Internal.NamedWays.{is_first, IsBestFirst}
use Rattle.pf_yen.proofs.named.best_first.Given as goal

abbrev pub invariant-steps : goal.invariant-steps
invariant-steps g l = record {
  is : l.next-items ≡ row_of l.filtered.adjacency.now l.filtered.spur;
  best : IsBestFirst g.C.Number.value (is_first l.filtered.onward.items l.filtered.spur l.filtered.banned) l.costs (take l.next-index l.next-items) l.best;
}
