-- What stands at a place of a list, and the place at which something stands.
use Rattle.std.specs.Prelude.{ℕ, ℤ, zero, suc, pos, Bool, List, [], ◌∷◌}
use Rattle.std.specs.List.{position_or_len}

-- the number of the value at k, or 0 where there is none
abbrev pub number : {C : Type 0} → (C → ℤ) → List C → ℕ → ℤ
number value [] k = pos 0
number value (x ∷ xs) zero = value x
number value (x ∷ xs) (suc k) = number value xs k

-- the number of a name: its place among the names, or how many there are where it is none of them
abbrev pub number_of : {N : Type 0} → (N → N → Bool) → List N → N → ℕ
number_of eq names x = position_or_len (eq x) names
