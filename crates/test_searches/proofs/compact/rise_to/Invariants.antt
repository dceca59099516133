use Rattle.std.proofs.Common.{ℕ, ◌<◌, ◌≤◌, get_or}
use Rattle.test_searches.proofs.compact.rise_to.Given as goal

abbrev pub invariant-loop-offset : goal.invariant-loop-offset
invariant-loop-offset l = record {
  rising : (i j d : ℕ) → i ≤ j → j < l.offset-index → get_or l.offsets i d ≤ get_or l.offsets j d;
  last : (j d : ℕ) → j < l.offset-index → get_or l.offsets j d ≤ l.last;
  within : (j d : ℕ) → j < l.offset-index → get_or l.offsets j d ≤ l.end;
}
