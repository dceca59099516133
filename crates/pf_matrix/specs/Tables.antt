-- What a contract sees of a matrix: its sizes, and its values by rows, the first row first.
use Rattle.std.specs.Prelude.{◌≡◌, ℕ, ◌+◌, ◌*◌, ◌^◌, ◌<◌, List, length, slice_index_or}

pub record Table (C : Type 0) : Type 0 where
  pub rows : ℕ
  pub columns : ℕ
  pub values : List C

-- Each row has a value for each column, there are columns where there are rows, and the number of values fits 64 bits.
pub record IsMatrix {C : Type 0} (m : Table C) : Type 0 where
  pub sized : length m.values ≡ m.rows * m.columns
  pub filled : 0 < m.rows → 0 < m.columns
  pub fits : m.rows * m.columns < 2 ^ 64

-- a position inside: a row and a column that the matrix has
abbrev pub HasPosition : {C : Type 0} → Table C → ℕ → ℕ → Type 0
HasPosition m r c = (r < m.rows) × (c < m.columns)

-- the value at row r and column c, or d where there is none
abbrev pub value_at : {C : Type 0} → Table C → ℕ → ℕ → C → C
value_at m r c d = slice_index_or m.values (r * m.columns + c) d
