-- The table of rows of scores, and that of their negations.
use Rattle.std.specs.Prelude.{ℕ, ℤ, pos, neg_ℤ, Bool, true, false, List, [], length, slice_index_or}
use Rattle.pf_assignment.specs.Assignments.{NumberTable}

-- the score in row r and column c
abbrev pub score : List (List ℤ) → ℕ → ℕ → ℤ
score rows r c = slice_index_or (slice_index_or rows r []) c (pos 0)

-- that score, or its negation
abbrev pub score_at : Bool → List (List ℤ) → ℕ → ℕ → ℤ
score_at true rows r c = neg_ℤ (score rows r c)
score_at false rows r c = score rows r c

-- the table of these, with three columns
abbrev pub score_table : Bool → List (List ℤ) → NumberTable
score_table negated rows = record { rows = length rows; columns = 3; at = score_at negated rows }
