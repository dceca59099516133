-- Matrices that are made row after row.
use Rattle.std.specs.Prelude.{◌≡◌, ◌≢◌, ℕ, ◌<◌, nat_eq, if◌then◌else◌, List, [], ◌∷◌, ◌++◌, length, Option, Some, None, ⊤}
use Rattle.std.specs.Borrow.{Bor}
use Rattle.std.specs.List.{flat_map, AllZip}
use Rattle.std.specs.Iterator.{Count, IsFiniteIterable}
use Rattle.pf_matrix.specs.Tables.{Table}
use Rattle.pf_matrix.specs.declared.error.MatrixFormatError.{MatrixFormatError}
use Rattle.pf_matrix.specs.declared.error.MatrixFormatError.TheVariants.{EmptyRow, WrongLength}

module _ {C : Type 0} where
  -- the values of the rows, one row after another
  abbrev pub joined : List (Bor (List C)) → List C
  joined rows = flat_map (λ (r : Bor (List C)). r.now) rows

  -- the length of the first row
  abbrev pub first_length : List (Bor (List C)) → ℕ
  first_length [] = 0
  first_length (r ∷ rs) = length r.now

  -- what the first row that cannot be put in is refused with
  abbrev pub first_refusal : ℕ → List (Bor (List C)) → Option MatrixFormatError
  first_refusal columns [] = None
  first_refusal columns (r ∷ rs) = if nat_eq (length r.now) 0 then Some EmptyRow else (if nat_eq (length r.now) columns then first_refusal columns rs else Some WrongLength)

  -- the values of these rows in one list
  abbrev pub flat : List (List C) → List C
  flat rows = flat_map (λ r. r) rows

  -- each row has this length
  abbrev pub AllOfLength : ℕ → List (List C) → Type 0
  AllOfLength w [] = ⊤
  AllOfLength w (r ∷ rs) = (length r ≡ w) × AllOfLength w rs

-- ---- rows that an iterator gives, each of which gives its values

-- each row that may be given of `rows`, behind those before it, ends
pub record RowsEnd {I J T : Type 0} (first : I → List J → Type 0) (inner : J → T → Type 0) (can : T → Type 0) (left : T → Count) (rows : I) : Type 0 where
  pub at : (before : List J) (row : J) → first rows (before ++ row ∷ []) → IsFiniteIterable inner can left row

-- what is given of `rows` gives lists of values with this property
pub record Given {C I J : Type 0} (outer : I → List J → Type 0) (inner : J → List C → Type 0) (P : List (List C) → Type 0) (rows : I) : Type 0 where
  pub given : List J
  pub lists : List (List C)
  pub gives : outer rows given
  pub values : AllZip inner given lists
  pub holds : P lists

-- the last row has another length than those before it
pub record LastDiffers {C : Type 0} (lists : List (List C)) : Type 0 where
  pub before : List (List C)
  pub last : List C
  pub width : ℕ
  pub is : lists ≡ before ++ last ∷ []
  pub some : 0 < length before
  pub same : AllOfLength width before
  pub differs : length last ≢ width

-- m has these rows; of no rows it is the empty matrix of 0 columns
pub record IsOfRows {C : Type 0} (m : Table C) (lists : List (List C)) : Type 0 where
  pub rows : m.rows ≡ length lists
  pub columns : AllOfLength m.columns lists
  pub values : m.values ≡ flat lists
  pub none : lists ≡ [] → m.columns ≡ 0
