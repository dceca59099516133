-- Numbers that are marked.
use Rattle.std.specs.Prelude.{◌≡◌, ℕ, Bool, List, Some, slice_get}
use Rattle.pf_yen.specs.Internal.Classes.{is_in}

-- of the numbers that have a mark, it tells whether they are listed
abbrev pub AreMarked : List Bool → List ℕ → Type 0
AreMarked marks ks = (b : ℕ) (m : Bool) → slice_get marks b ≡ Some m → m ≡ is_in ks b
