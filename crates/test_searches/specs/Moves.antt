-- The moves of two jugs, of three and of five litres.
use Rattle.std.specs.Prelude.{◌+◌, ◌-◌, min, List, [], ◌∷◌}
use Rattle.test_searches.specs.declared.jugs.Jugs.{Jugs}

-- what one move leads to: to fill a jug, to empty one, or to pour one into the other
abbrev pub moves_from : Jugs → List Jugs
moves_from s =
    let to_five = min s.three (5 - s.five) in let to_three = min s.five (3 - s.three) in
    record { three = 3; five = s.five } ∷ record { three = s.three; five = 5 } ∷ record { three = 0; five = s.five } ∷ record { three = s.three; five = 0 }
    ∷ record { three = s.three - to_five; five = s.five + to_five } ∷ record { three = s.three + to_three; five = s.five - to_three } ∷ []
