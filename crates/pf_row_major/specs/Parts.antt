-- Parts of values in row-major order.
use Rattle.std.specs.Prelude.{ℕ, ◌+◌, ◌-◌, ◌*◌, ◌<◌, ◌≤◌, Bool, if◌then◌else◌, List, slice_index_or}

-- in rows of size.1 values, ys has those of xs in size.0 rows and size.1 columns from a position on, or what stands to them as `like` says
abbrev pub IsPartOf : {C : Type 0} → (C → C → Type 0) → ℕ → ℕ × ℕ → ℕ × ℕ → List C → List C → Type 0
IsPartOf {C} like columns from size xs ys = (r c : ℕ) (d : C) → r < size.0 → c < size.1 → like (slice_index_or xs ((from.0 + r) * columns + (from.1 + c)) d) (slice_index_or ys (r * size.1 + c) d)

-- (r, c) is where a part of this many rows and columns lies that begins at `at`
pub record IsCovered (at : ℕ × ℕ) (height width r c : ℕ) : Type 0 where
  pub below : at.0 ≤ r
  pub above : r < at.0 + height
  pub right : at.1 ≤ c
  pub left : c < at.1 + width

-- the row r, counted from the last one if `upwards`
abbrev pub row_from : Bool → ℕ → ℕ → ℕ
row_from upwards rows r = if upwards then rows - 1 - r else r
