-- What is read of a list of numbers at a place inside it.
use Rattle.std.proofs.Common.{◌≡◌, ℕ, ◌<◌, List, length, get_or, ◌∙◌}
use Rattle.std.proofs.lemmas.List.{get_or_default}

pub read_is : (xs : List ℕ) (k v : ℕ) → v ≡ get_or xs k v → k < length xs → v ≡ get_or xs k 0
read_is xs k v e below = e ∙ get_or_default xs k v 0 below
