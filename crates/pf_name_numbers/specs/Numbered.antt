-- The names that the numbers of a search stand for.
use Rattle.std.specs.Prelude.{◌==◌, ℕ, Bool, false, List, Option, Vec, map}
use Rattle.std.specs.Borrow.{Bor}
use Rattle.std.specs.Option.{option_map, option_map_or}
use Rattle.pf_base.specs.NodeRefs.{nodes_of}
use Rattle.indexmap.specs.IndexSet.{insert_key}
use Rattle.pf_edge_lists.specs.EdgeLists.{NamesAndEdges, names_of}

-- the names of a list, and behind them the name that is handed in, where it is none of them
abbrev pub names_with : {N C : Type 0} → (N → N → Bool) → NamesAndEdges N C → N → List N
names_with eq list other = insert_key eq (names_of eq list) other

-- the goal has a number, and it is this one
abbrev pub is_numbered : Option ℕ → ℕ → Bool
is_numbered goal node = option_map_or (λ number. node == number) goal false

-- the lists of numbers
abbrev pub lists_in : {A : Type 0} → List (Vec ℕ A) → List (List ℕ)
lists_in {A} items = map (λ (v : Vec ℕ A). v.items) items

-- the lists of names that are referred to
abbrev pub named_lists_in : {N A : Type 0} → List (Vec (Bor N) A) → List (List N)
named_lists_in {N} {A} items = map (λ (v : Vec (Bor N) A). nodes_of v.items) items

-- a path of names that is referred to, and what it costs
abbrev pub found_in : {N C A : Type 0} → Option (Vec (Bor N) A × C) → Option (List N × C)
found_in {N} {C} {A} found = option_map {U = List N × C} (λ (f : Vec (Bor N) A × C). (nodes_of f.0.items, f.1)) found

-- the names of the numbers of a path, and what it costs
abbrev pub found_by : {N C A : Type 0} → (ℕ → N) → Option (Vec ℕ A × C) → Option (List N × C)
found_by {N} {C} {A} name found = option_map {U = List N × C} (λ (f : Vec ℕ A × C). (map name f.0.items, f.1)) found
