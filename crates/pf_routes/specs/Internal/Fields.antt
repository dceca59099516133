-- A text taken apart from the front.
use Rattle.std.specs.Prelude.{◌≡◌, ℕ, Bool, List, [], ◌∷◌, Option, Some, None, if◌then◌else◌}
use Rattle.std.specs.Borrow.{Bor}
use Rattle.pf_routes.specs.EdgeText.{is_gap, is_visible, lines_of}

-- the bytes up to the first one that fails the test
abbrev pub front : (ℕ → Bool) → List ℕ → List ℕ
front p [] = []
front p (x ∷ xs) = if p x then x ∷ front p xs else []

-- and what follows them
abbrev pub behind : (ℕ → Bool) → List ℕ → List ℕ
behind p [] = []
behind p (x ∷ xs) = if p x then behind p xs else x ∷ xs

-- the visible bytes that follow gaps, if any
abbrev pub field_of : List ℕ → List ℕ
field_of text = front is_visible (behind is_gap text)

-- what follows those
abbrev pub behind_field : List ℕ → List ℕ
behind_field text = behind is_visible (behind is_gap text)

-- the lines of what is left, if any
abbrev pub lines_left : Option (Bor (List ℕ)) → List (List ℕ)
lines_left None = []
lines_left (Some rest) = lines_of rest.now

-- the first line is not empty
pub record BeginsWithLine (text : List ℕ) : Type 0 where
  pub first : ℕ
  pub others : List ℕ
  pub more : List (List ℕ)
  pub lines : lines_of text ≡ (first ∷ others) ∷ more
