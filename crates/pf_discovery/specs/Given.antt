-- The numbers that a list of contracts has.
use Rattle.std.specs.Prelude.{ℕ, List, [], ◌∷◌, ◌++◌}
use Rattle.pf_discovery.specs.declared.given.Numbers.{Numbers, Nothing, More'}

abbrev pub numbers_of : Numbers → List ℕ
numbers_of Nothing = []
numbers_of (More' s n k) = numbers_of n ++ k ∷ []
