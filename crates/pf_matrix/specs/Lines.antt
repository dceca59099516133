-- The rows and the columns of a table, as lists.
use Rattle.std.specs.Prelude.{◌≡◌, ℕ, zero, suc, List, [], ◌∷◌, ◌++◌, take, drop, map, Result, MatchResult, Option, MatchOption}
use Rattle.std.specs.Borrow.{Bor}
use Rattle.pf_matrix.specs.Tables.{Table}

-- the first n rows of values that stand by rows of w
unfoldable pub rows_by : {C : Type 0} → ℕ → ℕ → List C → List (List C)
rows_by zero w xs = []
rows_by (suc n) w xs = take w xs ∷ rows_by n w (drop w xs)

-- what stands at place c of the first n rows of w
unfoldable pub column_by : {C : Type 0} → ℕ → ℕ → ℕ → List C → List C
column_by zero w c xs = []
column_by (suc n) w c xs = take 1 (drop c xs) ++ column_by n w c (drop w xs)

-- the rows, the first row first
abbrev pub rows_of : {C : Type 0} → Table C → List (List C)
rows_of m = rows_by m.rows m.columns m.values

-- column c, from the first row on
abbrev pub column_of : {C : Type 0} → Table C → ℕ → List C
column_of m c = column_by m.rows m.columns c m.values

-- n columns, from column c on
unfoldable pub columns_from : {C : Type 0} → Table C → ℕ → ℕ → List (List C)
columns_from m c zero = []
columns_from m c (suc n) = column_of m c ∷ columns_from m (suc c) n

-- the columns, the first column first
abbrev pub columns_of : {C : Type 0} → Table C → List (List C)
columns_of m = columns_from m 0 m.columns

-- an item of a column iterator: the references to the values of the column, or out of memory
abbrev pub ShowsColumn : {C Refs E : Type 0} → (Refs → List (Bor C)) → E → Result Refs E → List C → Type 0
ShowsColumn {C} items memory item column = MatchResult item (λ refs. map (λ (x : Bor C). x.now) (items refs) ≡ column) (λ e. e ≡ memory)

module _ {C Refs E : Type 0} (items : Refs → List (Bor C)) (memory : E) where
  -- a call gave the first of the columns that were left, or refused it, and left the others; or it gave none, where none was left
  abbrev pub YieldsFirstColumn : List (List C) → Option (Result Refs E) → List (List C) → Type 0
  YieldsFirstColumn s r t = MatchOption r ((s ≡ []) × (t ≡ [])) (λ item. (column : List C) × (s ≡ column ∷ t) × ShowsColumn items memory item column)

  -- the same from the back
  abbrev pub YieldsLastColumn : List (List C) → Option (Result Refs E) → List (List C) → Type 0
  YieldsLastColumn s r t = MatchOption r ((s ≡ []) × (t ≡ [])) (λ item. (column : List C) × (s ≡ t ++ column ∷ []) × ShowsColumn items memory item column)
