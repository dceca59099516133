use Rattle.std.proofs.Common.{◌≡◌, length, take, drop, map}
use Rattle.pf_yen.specs.Internal.Classes.{plan_of}
use Rattle.pf_yen.specs.Internal.NamedWays.{IsSpent}
use Rattle.pf_yen.specs.Internal.Splits.{IsFilteredTo, IsSplitUpTo}
use Rattle.pf_yen.proofs.classes.split_along.Given as goal

abbrev pub invariant-places : goal.invariant-places
invariant-places g l = record {
  adjacency : l.filtered.adjacency.now ≡ l.fn.filtered.adjacency.now;
  wide : length l.filtered.onward.items ≡ length l.fn.filtered.adjacency.now.rows;
  filtered : IsFilteredTo l.fn.filtered.adjacency.now l.filtered.onward.items l.filtered.spur (take l.place (drop 1 l.fn.candidate.path.items));
  spent : IsSpent g.C.Number.value l.fn.filtered.adjacency.now (take l.place (drop 1 l.fn.candidate.path.items)) l.filtered.spent;
  split : IsSplitUpTo g.C.Number.value l.fn.filtered.adjacency.now (plan_of l.fn.candidate) l.place l.filtered.banned (map plan_of l.plans.items);
}
