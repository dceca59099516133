-- The edges of a table at a number.
use Rattle.std.specs.Prelude.{ℕ, nat_lt, if◌then◌else◌, List, [], ◌∷◌, Option, Some, None, map}

-- what stands in a list of places, where something does
abbrev pub present : {A : Type 0} → List (Option A) → List A
present [] = []
present (None ∷ places) = present places
present (Some item ∷ places) = item ∷ present places

module _ {C : Type 0} (size : ℕ) (places : ℕ → List (Option (ℕ × C))) where
  -- what stands at the places of a number; one that is no node has none
  abbrev pub places_at : ℕ → List (Option (ℕ × C))
  places_at number = if nat_lt number size then places number else []

  -- the edges of a number
  abbrev pub edges_of : ℕ → List (ℕ × C)
  edges_of number = present (places_at number)

  -- where they lead
  abbrev pub ends_of : ℕ → List ℕ
  ends_of number = map (λ (e : ℕ × C). e.0) (edges_of number)
