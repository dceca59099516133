-- What a run takes from its reader.
use Rattle.std.specs.Prelude.{ℕ, List, Option}
use Rattle.std.specs.Io.KnownBytes.{Consumes}

-- of the input some text was read, or none, and no more than that is gone
abbrev pub HasReadSome : Option (List ℕ) → Option (List ℕ) → Type 0
HasReadSome old new = (text : List ℕ) × Consumes old new text
