-- Commands as words.
use Rattle.std.specs.Prelude.{◌≡◌, ℕ, Bool, false, ◌&&◌, ◌||◌, nat_lt, IsTrue, List, [], ◌∷◌, length, string_bytes, codes}
use Rattle.std.specs.List.{list_all}
use Rattle.std.specs.Str.{bytes_eq}
use Rattle.std.specs.Str.Parse.{digits_value}
use Rattle.pf_routes.specs.EdgeText.{is_visible, is_cost}
use Rattle.pf_routes.specs.declared.routes.commands.Command.{Command}
use Rattle.pf_routes.specs.declared.routes.commands.Command.TheVariants.{Dijkstra, Bfs, Kruskal, Yen, YenAll, Flow}

-- one or more of the bytes `!` to `~`
abbrev pub is_field : List ℕ → Bool
is_field word = nat_lt 0 (length word) && list_all is_visible word

-- one or more digits, and nothing else, with a value below 2^64
abbrev pub is_number : List ℕ → Bool
is_number word = nat_lt 0 (length word) && is_cost word

-- how many paths are asked for: a number, or `all`
abbrev pub is_count : List ℕ → Bool
is_count word = bytes_eq word (codes "all") || is_number word

-- some command is spelled by these words
abbrev pub is_command : List (List ℕ) → Bool
is_command [] = false
is_command (name ∷ []) = bytes_eq name (codes "kruskal")
is_command (name ∷ from ∷ []) = false
is_command (name ∷ from ∷ to ∷ []) = (bytes_eq name (codes "dijkstra") || bytes_eq name (codes "bfs") || bytes_eq name (codes "flow")) && is_field from && is_field to
is_command (name ∷ from ∷ to ∷ count ∷ []) = bytes_eq name (codes "yen") && is_field from && is_field to && is_count count
is_command (name ∷ from ∷ to ∷ count ∷ more ∷ others) = false

-- the word is digits, and the number that they spell is this one
pub record IsNumber (word : List ℕ) (number : ℕ) : Type 0 where
  pub digits : IsTrue (is_number word)
  pub value : digits_value 10 word ≡ number

-- the command is the one that these words spell
abbrev pub IsSpelledBy : Command → List (List ℕ) → Type 0
IsSpelledBy (Dijkstra from to) words = words ≡ codes "dijkstra" ∷ string_bytes from ∷ string_bytes to ∷ []
IsSpelledBy (Bfs from to) words = words ≡ codes "bfs" ∷ string_bytes from ∷ string_bytes to ∷ []
IsSpelledBy Kruskal words = words ≡ codes "kruskal" ∷ []
IsSpelledBy (Yen from to count) words = (word : List ℕ) × IsNumber word count × (words ≡ codes "yen" ∷ string_bytes from ∷ string_bytes to ∷ word ∷ [])
IsSpelledBy (YenAll from to) words = words ≡ codes "yen" ∷ string_bytes from ∷ string_bytes to ∷ codes "all" ∷ []
IsSpelledBy (Flow from to) words = words ≡ codes "flow" ∷ string_bytes from ∷ string_bytes to ∷ []
