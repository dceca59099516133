-- An edge as a line.
use Rattle.std.specs.Prelude.{ℕ, List, ◌∷◌, [], ◌++◌}
use Rattle.std.specs.Fmt.{decimal}

-- two names and a number, as `A B 3`
abbrev pub edge_line : List ℕ → List ℕ → ℕ → List ℕ
edge_line from to number = from ++ 32 ∷ to ++ 32 ∷ decimal number ++ 10 ∷ []
