-- The edges of a list that have one node at one of their ends.
use Rattle.std.specs.Prelude.{Bool, List, if◌then◌else◌, Some, None}
use Rattle.std.specs.List.{filter_map}

-- what is shown of those edges whose key is n, in the order of the list
abbrev pub chosen : {N E X : Type 0} → (N → N → Bool) → (E → N) → (E → X) → List E → N → List X
chosen {N} {E} eq key shown edges n = filter_map (λ (e : E). if eq (key e) n then Some (shown e) else None) edges
