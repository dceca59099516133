-- Tables whose values come from the positions of another table.
use Rattle.std.specs.Prelude.{◌≡◌, ℕ, zero, suc, ◌+◌, ◌-◌, ◌*◌, ◌%◌, ◌<◌, ◌≤◌, List}
use Rattle.std.specs.List.{AppendsClones, AllClonesOf}
use Rattle.std.specs.declared.ops.Range.{Range}
use Rattle.pf_matrix.specs.Tables.{Table, IsMatrix, value_at}
use Rattle.pf_row_major.specs.Parts.{IsCovered}

-- n has these sizes, and the value at (r, c) of n stands to the value of m at the position `from r c` as `like` says: a clone of it, or the value itself
pub record IsArranged {C : Type 0} (like : C → C → Type 0) (height width : ℕ) (from : ℕ → ℕ → ℕ × ℕ) (m n : Table C) : Type 0 where
  pub rows : n.rows ≡ height
  pub columns : n.columns ≡ width
  pub values : (r c : ℕ) (d : C) → r < height → c < width → like (value_at m (from r c).0 (from r c).1 d) (value_at n r c d)
  pub matrix : IsMatrix n

-- the value itself
abbrev pub itself : {C : Type 0} → C → C → Type 0
itself x y = y ≡ x

module _ {C : Type 0} (like : C → C → Type 0) (m n : Table C) where
  -- each value at its own position
  abbrev pub IsCopied : Type 0
  IsCopied = IsArranged like m.rows m.columns (λ r c. (r, c)) m n

  -- left and right exchanged
  abbrev pub IsFlippedLr : Type 0
  IsFlippedLr = IsArranged like m.rows m.columns (λ r c. (r, m.columns - 1 - c)) m n

  -- up and down exchanged
  abbrev pub IsFlippedUd : Type 0
  IsFlippedUd = IsArranged like m.rows m.columns (λ r c. (m.rows - 1 - r, c)) m n

  -- rows and columns exchanged
  abbrev pub IsTransposed : Type 0
  IsTransposed = IsArranged like m.columns m.rows (λ r c. (c, r)) m n

  -- a quarter turn to the right
  abbrev pub IsTurnedRight : Type 0
  IsTurnedRight = IsArranged like m.columns m.rows (λ r c. (m.rows - 1 - c, r)) m n

  -- two quarter turns
  abbrev pub IsTurnedTwice : Type 0
  IsTurnedTwice = IsArranged like m.rows m.columns (λ r c. (m.rows - 1 - r, m.columns - 1 - c)) m n

  -- a quarter turn to the left
  abbrev pub IsTurnedLeft : Type 0
  IsTurnedLeft = IsArranged like m.columns m.rows (λ r c. (c, m.columns - 1 - r)) m n

  -- as many quarter turns to the right, below four
  abbrev pub IsTurnedBy : ℕ → Type 0
  IsTurnedBy zero = IsCopied
  IsTurnedBy (suc zero) = IsTurnedRight
  IsTurnedBy (suc (suc zero)) = IsTurnedTwice
  IsTurnedBy (suc (suc (suc k))) = IsTurnedLeft

  -- that many quarter turns to the right, where four of them give the table itself
  abbrev pub IsRotatedCw : ℕ → Type 0
  IsRotatedCw times = IsTurnedBy (times % 4)

  -- that many quarter turns to the left: each is three to the right
  abbrev pub IsRotatedCcw : ℕ → Type 0
  IsRotatedCcw times = IsTurnedBy (3 * (times % 4) % 4)

-- a table with columns has rows, as a table needs that is turned or transposed
abbrev pub CanTurn : {C : Type 0} → Table C → Type 0
CanTurn m = 0 < m.columns → 0 < m.rows

-- n is m with the values at a and b exchanged
pub record IsExchanged {C : Type 0} (a b : ℕ × ℕ) (m n : Table C) : Type 0 where
  pub rows : n.rows ≡ m.rows
  pub columns : n.columns ≡ m.columns
  pub first : (d : C) → value_at n a.0 a.1 d ≡ value_at m b.0 b.1 d
  pub second : (d : C) → value_at n b.0 b.1 d ≡ value_at m a.0 a.1 d
  pub others : (r c : ℕ) (d : C) → r < m.rows → c < m.columns → ¬ ((r ≡ a.0) × (c ≡ a.1)) → ¬ ((r ≡ b.0) × (c ≡ b.1)) → value_at n r c d ≡ value_at m r c d
  pub matrix : IsMatrix n

-- the rows and the columns of two ranges lie inside
pub record IsWithin {C : Type 0} (m : Table C) (rows columns : Range ℕ) : Type 0 where
  pub rows_order : rows.start ≤ rows.end
  pub rows_fit : rows.end ≤ m.rows
  pub columns_order : columns.start ≤ columns.end
  pub columns_fit : columns.end ≤ m.columns

-- n is the part of m in these rows and columns
abbrev pub IsPart : {C : Type 0} → (C → C → Type 0) → Range ℕ → Range ℕ → Table C → Table C → Type 0
IsPart like rows columns m n = IsArranged like (rows.end - rows.start) (columns.end - columns.start) (λ r c. (rows.start + r, columns.start + c)) m n

-- n is m with the values of `part` from the position `at` on, as far as they fit
pub record IsOverwritten {C : Type 0} (at : ℕ × ℕ) (part m n : Table C) : Type 0 where
  pub rows : n.rows ≡ m.rows
  pub columns : n.columns ≡ m.columns
  pub written : (r c : ℕ) (d : C) → r < m.rows → c < m.columns → IsCovered at part.rows part.columns r c → value_at n r c d ≡ value_at part (r - at.0) (c - at.1) d
  pub others : (r c : ℕ) (d : C) → r < m.rows → c < m.columns → ¬ (IsCovered at part.rows part.columns r c) → value_at n r c d ≡ value_at m r c d
  pub matrix : IsMatrix n

-- n is m with one row more at the end, of clones of these values
pub record IsExtended {C : Type 0} (clones : C → C → Type 0) (row : List C) (m n : Table C) : Type 0 where
  pub rows : n.rows ≡ m.rows + 1
  pub columns : n.columns ≡ m.columns
  pub values : AppendsClones clones m.values n.values row
  pub matrix : IsMatrix n

-- n has the sizes of m, and each of its values is this one or a clone of it
pub record IsFilled {C : Type 0} (clones : C → C → Type 0) (value : C) (m n : Table C) : Type 0 where
  pub rows : n.rows ≡ m.rows
  pub columns : n.columns ≡ m.columns
  pub values : AllClonesOf clones value n.values
  pub matrix : IsMatrix n

-- what four steps of this kind make of m, one after another, has this property
abbrev pub AfterFour : {C : Type 0} → (Table C → Table C → Type 0) → Table C → (Table C → Type 0) → Type 0
AfterFour {C} step m P = (n o p q : Table C) → step m n → step n o → step o p → step p q → P q

-- a clone is its original
abbrev pub IsFaithful : {C : Type 0} → (C → C → Type 0) → Type 0
IsFaithful {C} like = (x y : C) → like x y → y ≡ x
