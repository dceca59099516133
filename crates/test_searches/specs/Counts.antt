-- The moves of counts up to 9.
use Rattle.std.specs.Prelude.{ℕ, ◌+◌, ◌*◌, nat_lt, if◌then◌else◌, List, [], ◌∷◌, Option, Some, None}
use Rattle.test_searches.specs.declared.counts.Count.{Count}

-- up to 8 one more at 2, from 9 on 1 at 1; and up to 4 twice as many at 5
abbrev pub moves_from : Count → List (Option (Count × ℕ))
moves_from s =
    (if nat_lt s.number 9 then Some (record { number = s.number + 1 }, 2) else Some (record { number = 1 }, 1))
    ∷ (if nat_lt s.number 5 then Some (record { number = s.number * 2 }, 5) else None) ∷ []
