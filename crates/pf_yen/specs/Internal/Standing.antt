-- Where a walk stands between two calls of `next`.
use Rattle.std.specs.Prelude.{Bool, true, false}
use Rattle.pf_yen.specs.declared.standing.Standing.{Standing}
use Rattle.pf_yen.specs.declared.standing.Standing.TheVariants.{GoesOn, Refused, Overflowed, OverflowsAgain}

-- whether the last step was refused, and `resume` not called since
abbrev pub was_refused : Standing → Bool
was_refused GoesOn = false
was_refused Refused = true
was_refused Overflowed = true
was_refused OverflowsAgain = false

-- whether the step to come was refused for a cost overflow
abbrev pub is_barred : Standing → Bool
is_barred GoesOn = false
is_barred Refused = false
is_barred Overflowed = true
is_barred OverflowsAgain = true
