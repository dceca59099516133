-- The moves of three discs on three pegs, and how many discs are off a peg.
use Rattle.std.specs.Prelude.{ℕ, Bool, ◌+◌, ◌==◌, ◌&&◌, not, nat_lt, if◌then◌else◌, List, [], ◌∷◌, Option, Some, None}
use Rattle.example_discs.specs.declared.discs.Tower.{Tower}

-- the peg behind a peg, round in turn
abbrev pub after : ℕ → ℕ
after peg = if nat_lt peg 2 then peg + 1 else 0

-- whether a smaller disc is on neither of two pegs
abbrev pub is_clear : ℕ → ℕ → ℕ → Bool
is_clear smaller from to = not (smaller == from) && not (smaller == to)

-- the move to a tower at a cost of 1, where it is allowed
abbrev pub where_allowed : Bool → Tower → Option (Tower × ℕ)
where_allowed is_allowed tower = if is_allowed then Some (tower, 1) else None

module _ (s : Tower) where
  -- the move of a disc to a peg: the smaller ones have to be on other pegs
  abbrev pub small_to : ℕ → Option (Tower × ℕ)
  small_to to = Some (record { small = to; middle = s.middle; large = s.large }, 1)

  abbrev pub middle_to : ℕ → Option (Tower × ℕ)
  middle_to to = where_allowed (is_clear s.small s.middle to) (record { small = s.small; middle = to; large = s.large })

  abbrev pub large_to : ℕ → Option (Tower × ℕ)
  large_to to = if is_clear s.small s.large to then where_allowed (is_clear s.middle s.large to) (record { small = s.small; middle = s.middle; large = to }) else None

  -- what one move leads to: each disc goes to one of the two other pegs
  abbrev pub moves_from : List (Option (Tower × ℕ))
  moves_from = small_to (after s.small) ∷ small_to (after (after s.small)) ∷ middle_to (after s.middle) ∷ middle_to (after (after s.middle)) ∷ large_to (after s.large) ∷ large_to (after (after s.large)) ∷ []

module _ (goal : ℕ) where
  -- whether all discs are on a peg
  abbrev pub all_on : Tower → Bool
  all_on s = s.small == goal && (s.middle == goal && s.large == goal)

  -- 1 for a disc that is off a peg, else 0
  abbrev pub off : ℕ → ℕ
  off peg = if peg == goal then 0 else 1

  -- how many discs are off a peg
  abbrev pub misplaced : Tower → ℕ
  misplaced s = off s.small + off s.middle + off s.large
