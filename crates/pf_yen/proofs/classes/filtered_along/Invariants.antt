use Rattle.std.proofs.Common.{◌≡◌, [], length, take, drop}
use Rattle.pf_yen.specs.Internal.Splits.{IsFilteredTo}
use Rattle.pf_yen.specs.Internal.NamedWays.{IsSpent}
use Rattle.pf_yen.proofs.classes.filtered_along.Given as goal

abbrev pub invariant-places : goal.invariant-places
invariant-places g l = record {
  adjacency : l.filtered.adjacency.now ≡ l.fn.adjacency;
  wide : length l.filtered.onward.items ≡ length l.fn.adjacency.rows;
  banned : l.filtered.banned ≡ [];
  filtered : IsFilteredTo l.fn.adjacency l.filtered.onward.items l.filtered.spur (take l.place (drop 1 l.fn.path));
  spent : IsSpent g.C.Number.value l.fn.adjacency (take l.place (drop 1 l.fn.path)) l.filtered.spent;
}
