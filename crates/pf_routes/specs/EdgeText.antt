-- What a text of edges says: its lines, their fields, and the edges that they stand for.
use Rattle.std.specs.Prelude.{ℕ, ◌+◌, ◌^◌, Bool, true, false, ◌||◌, ◌&&◌, nat_lt, nat_le, ◌==◌, List, [], ◌∷◌, length, map, filter, position, Option, Some, None, Result, Ok, Err, if◌then◌else◌}
use Rattle.std.specs.List.{slice_split, list_all, filter_map}
use Rattle.std.specs.Str.{all_ascii_digits}
use Rattle.std.specs.Str.Lines.{strip_carriage_return}
use Rattle.std.specs.Str.Parse.{digits_value}

-- an edge as it is written
pub record Edge : Type 0 where
  pub from : List ℕ
  pub to : List ℕ
  pub cost : ℕ

-- what a line says
pub data Line : Type 0 where
  Blank : Line
  Holds : (edge : Edge) → Line
  Bad : Line

-- the parts between line feeds, each without one carriage return at its end
abbrev pub lines_of : List ℕ → List (List ℕ)
lines_of text = map strip_carriage_return (slice_split (λ b. b == 10) text)

-- a space or a tab
abbrev pub is_gap : ℕ → Bool
is_gap b = (b == 32) || (b == 9)

-- `!` to `~`
abbrev pub is_visible : ℕ → Bool
is_visible b = nat_le 33 b && nat_le b 126

-- the parts between gaps that are not empty
abbrev pub fields_of : List ℕ → List (List ℕ)
fields_of line = filter (λ part. nat_lt 0 (length part)) (slice_split is_gap line)

-- digits alone, with a value below 2^64 (a field has one byte or more)
abbrev pub is_cost : List ℕ → Bool
is_cost field = all_ascii_digits field && nat_lt (digits_value 10 field) (2 ^ 64)

-- no field is a blank line, and three fields are an edge
abbrev pub line_of_fields : List (List ℕ) → Line
line_of_fields [] = Blank
line_of_fields (from ∷ []) = Bad
line_of_fields (from ∷ to ∷ []) = Bad
line_of_fields (from ∷ to ∷ cost ∷ []) = if is_cost cost then Holds (record { from = from; to = to; cost = digits_value 10 cost }) else Bad
line_of_fields (from ∷ to ∷ cost ∷ more ∷ others) = Bad

-- a line with any other byte than visible ones and gaps is bad
abbrev pub line_of : List ℕ → Line
line_of line = if list_all (λ b. is_gap b || is_visible b) line then line_of_fields (fields_of line) else Bad

abbrev pub is_bad : Line → Bool
is_bad Bad = true
is_bad Blank = false
is_bad (Holds edge) = false

abbrev pub edge_in : Line → Option Edge
edge_in (Holds edge) = Some edge
edge_in Blank = None
edge_in Bad = None

-- the number of the line at a place, or the edges where there is none
abbrev pub first_bad_or : Option ℕ → List Edge → Result (List Edge) ℕ
first_bad_or None edges = Ok edges
first_bad_or (Some place) edges = Err (place + 1)

-- what the lines of a text say
abbrev pub said_by : List ℕ → List Line
said_by text = map line_of (lines_of text)

-- The edges of the text's lines, or the number of its first bad line, counted from 1.
abbrev pub edge_text : List ℕ → Result (List Edge) ℕ
edge_text text = first_bad_or (position is_bad (said_by text)) (filter_map edge_in (said_by text))
