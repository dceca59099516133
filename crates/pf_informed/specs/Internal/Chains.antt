-- Lists of numbers, as chains of links.
use Rattle.std.specs.Prelude.{◌≡◌, ◌⊎◌, ◌≤◌, ℕ, zero, suc, List, [], ◌∷◌, Option, Some, None, length, map, slice_get, slice_set}
use Rattle.pf_informed.specs.declared.predecessors.Link.{Link}

-- the number of a link, if there is one, and those behind it
abbrev pub link_and : (ℕ → List ℕ) → Option Link → List ℕ
link_and behind None = []
link_and behind (Some l) = l.number ∷ behind l.next

-- the numbers from the link at a place on, where places are counted from 1
abbrev pub from_place : (ℕ → List ℕ) → List Link → ℕ → List ℕ
from_place behind links zero = []
from_place behind links (suc place) = link_and behind (slice_get links place)

-- the same, `most` numbers at most
abbrev pub chain : List Link → ℕ → ℕ → List ℕ
chain links zero place = []
chain links (suc most) place = from_place (chain links most) links place

-- the lists that begin at these places
abbrev pub lists_at : List Link → List ℕ → List (List ℕ)
lists_at links heads = map (chain links (length links)) heads

-- each list begins among the links, and each link leads to an earlier one
pub record IsChained (heads : List ℕ) (links : List Link) : Type 0 where
  pub begins : (k place : ℕ) → slice_get heads k ≡ Some place → place ≤ length links
  pub back : (i : ℕ) (l : Link) → slice_get links i ≡ Some l → l.next ≤ i

abbrev pub list_or_none : Option (List ℕ) → List ℕ
list_or_none None = []
list_or_none (Some row) = row

-- the numbers before number k
abbrev pub before_in : List (List ℕ) → ℕ → List ℕ
before_in lists k = list_or_none (slice_get lists k)

-- the number stands first
abbrev pub BeginsWith : ℕ → List ℕ → Type 0
BeginsWith number numbers = (rest : List ℕ) × (numbers ≡ number ∷ rest)

-- the number was put first before `next`, unless it stood there first
abbrev pub IsLinked : ℕ → ℕ → List (List ℕ) → List (List ℕ) → Type 0
IsLinked next number lists lists' = ((lists' ≡ lists) × BeginsWith number (before_in lists next)) ⊎ ((lists' ≡ slice_set lists next (number ∷ before_in lists next)) × ¬ (BeginsWith number (before_in lists next)))
