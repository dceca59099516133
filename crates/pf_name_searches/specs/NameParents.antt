-- Lists of names with the names before them on cheapest paths.
use Rattle.std.specs.Prelude.{ℕ, Bool, List, Option, get_or, map}
use Rattle.std.specs.Borrow.{Bor}
use Rattle.std.specs.Option.{option_map}
use Rattle.std.specs.Map.{lookup}
use Rattle.pf_edge_lists.specs.EdgeLists.{NamesAndEdges, names_of}

-- the names that are referred to: a name, the name before it, and a cost
abbrev pub entries_in : {N C : Type 0} → List (Bor N × (Bor N × C)) → List (N × (N × C))
entries_in {N} {C} items = map (λ (e : Bor N × (Bor N × C)). (e.0.now, (e.1.0.now, e.1.1))) items

-- what stands beside the first name that equals x
abbrev pub entry_of : {N C : Type 0} → (N → N → Bool) → List (N × (N × C)) → N → Option (N × C)
entry_of eq entries x = lookup (eq x) entries

-- the name of a number with what a map of numbers has for it, by name
abbrev pub name_entry : {N C : Type 0} → (N → N → Bool) → NamesAndEdges N C → N → (ℕ → Option (ℕ × C)) → ℕ → Option (N × (N × C))
name_entry {N} {C} eq list other entry k = option_map (λ (e : ℕ × C). (get_or (names_of eq list) k other, (get_or (names_of eq list) e.0 other, e.1))) (entry k)
