-- Links between numbered names.
use Rattle.std.specs.Prelude.{◌≡◌, ℕ, ◌<◌, ◌≤◌, ◌==◌, List, [], filter, map, length, All, slice_index_or, Option, IfSome}
use Rattle.std.specs.Borrow.{Bor}
use Rattle.std.specs.Str.{bytes_eq}
use Rattle.indexmap.specs.IndexSet.{insert_all}
use Rattle.pf_routes.specs.EdgeText.{Edge}
use Rattle.pf_routes.specs.declared.routes.links.Link.{Link}

-- the bytes of borrowed names
abbrev pub bytes_of : List (Bor (List ℕ)) → List (List ℕ)
bytes_of names = map (λ k. k.now) names

-- the name of this number
abbrev pub name_at : List (Bor (List ℕ)) → ℕ → List ℕ
name_at names n = slice_index_or (bytes_of names) n []

-- the edge that a link stands for
abbrev pub edge_between : List (Bor (List ℕ)) → Link → Edge
edge_between names l = record { from = name_at names l.source; to = name_at names l.target; cost = l.cost }

abbrev pub edges_between : List (Bor (List ℕ)) → List Link → List Edge
edges_between names links = map (edge_between names) links

-- both ends of each link are numbers below the count
abbrev pub AllBelow : ℕ → List Link → Type 0
AllBelow count links = All (λ l. (l.source < count) × (l.target < count)) links

-- all names keep their numbers
pub record KeepsNames (old new : List (Bor (List ℕ))) : Type 0 where
  pub longer : length old ≤ length new
  pub same : (n : ℕ) → n < length old → name_at new n ≡ name_at old n

-- the names after these were met in turn: each that was new came behind the others
abbrev pub NumbersInTurn : List (Bor (List ℕ)) → List (List ℕ) → List (Bor (List ℕ)) → Type 0
NumbersInTurn old met new = bytes_of new ≡ insert_all bytes_eq (bytes_of old) met

-- the number, where there is one, is that of the name
abbrev pub IsNumberOf : List (Bor (List ℕ)) → List ℕ → Option ℕ → Type 0
IsNumberOf names name number = IfSome number (λ n. (n < length names) × (name_at names n ≡ name))

-- the links that leave the node of this number, in their order
abbrev pub links_from : ℕ → List Link → List Link
links_from n links = filter (λ l. l.source == n) links

-- the steps from the node of this number, in their order, each as the node that it leads to and its cost
abbrev pub steps_from : ℕ → List Link → List (ℕ × ℕ)
steps_from n links = map (λ l. (l.target, l.cost)) (links_from n links)
