-- How many ticks a count has.
use Rattle.std.specs.Prelude.{ℕ, ◌+◌}
use Rattle.pf_base.specs.declared.tally.Count.{Count, Zero, Next'}

abbrev pub ticks_of : Count → ℕ
ticks_of Zero = 0
ticks_of (Next' s n) = ticks_of n + 1
