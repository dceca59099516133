-- Which nodes are marked.
use Rattle.std.specs.Prelude.{ℕ, Bool, false, List, slice_get}
use Rattle.std.specs.Option.{option_map_or}

-- the mark of the node, and false where it has none
abbrev pub is_marked : List Bool → ℕ → Bool
is_marked marks node = option_map_or (λ (mark : Bool). mark) (slice_get marks node) false
