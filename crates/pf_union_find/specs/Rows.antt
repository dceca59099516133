-- Rows of items in one block, each with room for so many.
use Rattle.std.specs.Prelude.{◌≡◌, ℕ, ◌+◌, ◌-◌, ◌<◌, ◌≤◌, List, Some, length, slice_index, slice_get}

-- where rows with room for so many items begin, and at the end how many places they have in all
pub record AreStarts (counts starts : List ℕ) : Type 0 where
  pub wide : length starts ≡ length counts + 1
  pub steps : (row : ℕ) → row < length counts → slice_index starts (row + 1) ≡ slice_index starts row + slice_index counts row

-- Below, `rows` has where each row begins, and behind the last one how many places there are; where the items of each row end; and all places.
module _ {T : Type 0} (rows : List ℕ × List ℕ × List T) where
  -- how many rows there are
  abbrev pub row_count : ℕ
  row_count = length rows.1

  -- for how many items the row has room
  abbrev pub room_of : ℕ → ℕ
  room_of row = slice_index rows.0 (row + 1) - slice_index rows.0 row

  -- how many items it has
  abbrev pub fill_of : ℕ → ℕ
  fill_of row = slice_index rows.1 row - slice_index rows.0 row

  -- the row has the item
  abbrev pub HasItem : ℕ → T → Type 0
  HasItem row x = (place : ℕ) × (slice_index rows.0 row ≤ place) × (place < slice_index rows.1 row) × (slice_get rows.2 place ≡ Some x)

  -- the rows follow one another, and the items of each stand within it
  pub record AreRows : Type 0 where
    pub wide : length rows.0 ≡ length rows.1 + 1
    pub held : (row : ℕ) → row < length rows.1 → (slice_index rows.0 row ≤ slice_index rows.1 row) × (slice_index rows.1 row ≤ slice_index rows.0 (row + 1))
    pub rises : (a b : ℕ) → a ≤ b → b < length rows.0 → slice_index rows.0 a ≤ slice_index rows.0 b
    pub within : (a : ℕ) → a < length rows.0 → slice_index rows.0 a ≤ length rows.2
