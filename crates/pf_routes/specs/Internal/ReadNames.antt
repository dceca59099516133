-- A name in two parts.
use Rattle.std.specs.Prelude.{ℕ, List, ◌∷◌, Option, Some, None}

-- the first byte, if there is one, and the others
abbrev pub with_first : Option ℕ → List ℕ → List ℕ
with_first None rest = rest
with_first (Some byte) rest = byte ∷ rest
