-- Rows of bits in words of 64 bits: the bit x of a row is the bit x % 64 of the row's word x / 64.
use Rattle.std.specs.Prelude.{◌≡◌, ℕ, ◌+◌, ◌*◌, ◌/◌, ◌%◌, ◌^◌, ◌<◌, Bool, not, nat_eq, if◌then◌else◌, List, length, slice_index_or}
use Rattle.std.specs.Int.{bit_at}
use Rattle.std.specs.List.{count_by}
use Rattle.pf_grid.specs.GridPositions.{cells_of}

-- how many words a row of this width takes
abbrev pub row_words : ℕ → ℕ
row_words width = (width + 63) / 64

-- the bit x of the row y, where each row takes so many words
abbrev pub bit : List ℕ → ℕ → ℕ → ℕ → Bool
bit words per_row x y = nat_eq (bit_at (slice_index_or words (y * per_row + x / 64) 0) (x % 64)) 1

-- the other truth value, if the first is true
abbrev pub turned : Bool → Bool → Bool
turned turns b = if turns then not b else b

-- whether the position (x, y) is a vertex: a bit that is 1, or 0 where the grid is inverted
abbrev pub held : List ℕ → ℕ → Bool → ℕ → ℕ → Bool
held words per_row inverted x y = turned inverted (bit words per_row x y)

-- There are whole rows of words, and the vertices are counted. What the bits past the width are is left open.
pub record IsRows (words : List ℕ) (width height : ℕ) (inverted : Bool) (len : ℕ) : Type 0 where
  pub sized : length words ≡ row_words width * height
  pub fits : width * height < 2 ^ 64
  pub counted : len ≡ count_by (λ c. c) (cells_of width height (held words (row_words width) inverted))
