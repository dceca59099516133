use Rattle.std.proofs.Common.{◌≡◌, [], length}
use Rattle.pf_informed.specs.Internal.Ways.{AreWays, ways_left, tries_left}
use Rattle.pf_informed.specs.Internal.Chains.{before_in}
use Rattle.pf_informed.proofs.ways.Ways.find.Given as goal

abbrev pub invariant-branches : goal.invariant-branches
invariant-branches g l = record {
  some : l.fn.self.waiting.items ≡ [] → l.self.waiting.items ≡ [];
  before : l.self.before ≡ l.fn.self.before;
  kept : AreWays (length l.fn.self.before) (before_in l.fn.self.before) l.self.way.items l.self.places.items l.self.waiting.items;
  left : ways_left (before_in l.fn.self.before) (length l.fn.self.before) l.self.way.items l.self.waiting.items ≡ ways_left (before_in l.fn.self.before) (length l.fn.self.before) l.fn.self.way.items l.fn.self.waiting.items;
}

abbrev pub decreases-branches : goal.decreases-branches
decreases-branches g l = tries_left (before_in l.fn.self.before) (length l.fn.self.before) l.self.waiting.items
