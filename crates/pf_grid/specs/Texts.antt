-- The text of a grid: a line for each row, with line ends between them.
use Rattle.std.specs.Prelude.{ℕ, zero, suc, ◌-◌, Bool, if◌then◌else◌, List, [], ◌∷◌, ◌++◌}
use Rattle.std.specs.Char.{encode_utf8}
use Rattle.pf_grid.specs.GridPositions.{Positions, has}

-- what stands before the line n
abbrev pub line_end : ℕ → List ℕ
line_end zero = []
line_end (suc n) = 10 ∷ []

module _ (g : Positions) (present absent : ℕ) where
  -- the characters of the first columns of the row y
  unfoldable pub line_to : ℕ → ℕ → List ℕ
  line_to y zero = []
  line_to y (suc x) = line_to y x ++ encode_utf8 (if has g x y then present else absent)

  -- the row of the line n
  abbrev pub row_of : Bool → ℕ → ℕ
  row_of reversed n = if reversed then g.height - 1 - n else n

  -- the first lines
  unfoldable pub lines_to : Bool → ℕ → List ℕ
  lines_to reversed zero = []
  lines_to reversed (suc n) = lines_to reversed n ++ (line_end n ++ line_to (row_of reversed n) g.width)

  -- a line for each row, the first row first, or the last one first if reversed
  abbrev pub text_of : Bool → List ℕ
  text_of reversed = lines_to reversed g.height
