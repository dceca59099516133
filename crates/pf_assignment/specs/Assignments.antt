-- Assignments of rows to columns, and what they are worth by a table of numbers.
use Rattle.std.specs.Prelude.{◌≡◌, ◌≤ℤ◌, ◌+ℤ◌, ◌⊎◌, ℕ, zero, suc, ◌+◌, ◌*◌, ◌<◌, ℤ, pos, neg_ℤ, List, [], ◌∷◌, length, slice_index}
use Rattle.pf_base.specs.Costs.{LiesBetween}
use Rattle.pf_base.specs.Sums.{sum_to}

-- a number for each row and column
pub record NumberTable : Type 0 where
  pub rows : ℕ
  pub columns : ℕ
  pub at : ℕ → ℕ → ℤ

-- each row has a column of its own
pub record IsAssignment (rows columns : ℕ) (f : List ℕ) : Type 0 where
  pub len : length f ≡ rows
  pub inside : (r : ℕ) → r < rows → slice_index f r < columns
  pub once : (r s : ℕ) → r < rows → s < rows → slice_index f r ≡ slice_index f s → r ≡ s

-- the sum of the table over the rows, each at its column
abbrev pub assignment_total : NumberTable → List ℕ → ℤ
assignment_total t f = sum_to (λ r. t.at r (slice_index f r)) t.rows

-- no assignment is worth more
pub record IsBestAssignment (t : NumberTable) (f : List ℕ) : Type 0 where
  pub assignment : IsAssignment t.rows t.columns f
  pub best : (g : List ℕ) → IsAssignment t.rows t.columns g → assignment_total t g ≤ℤ assignment_total t f

-- no assignment is worth less
pub record IsLeastAssignment (t : NumberTable) (f : List ℕ) : Type 0 where
  pub assignment : IsAssignment t.rows t.columns f
  pub least : (g : List ℕ) → IsAssignment t.rows t.columns g → assignment_total t f ≤ℤ assignment_total t g

-- n holds the negations of what t holds
pub record IsNegatedTable (t n : NumberTable) : Type 0 where
  pub rows : n.rows ≡ t.rows
  pub columns : n.columns ≡ t.columns
  pub negated : (r c : ℕ) → r < t.rows → c < t.columns → n.at r c ≡ neg_ℤ (t.at r c)

-- w is the greatest absolute number of the table, or 0 where it has none
pub record IsGreatestWeight (t : NumberTable) (w : ℕ) : Type 0 where
  pub bound : (r c : ℕ) → r < t.rows → c < t.columns → LiesBetween (neg_ℤ (pos w)) (pos w) (t.at r c)
  pub reached : (w ≡ 0) ⊎ ((r : ℕ) × (c : ℕ) × (r < t.rows) × (c < t.columns) × ((t.at r c ≡ pos w) ⊎ (t.at r c ≡ neg_ℤ (pos w))))

-- (2 * rows + 4) times the greatest absolute weight fits, and so does its negation
pub record WeightsFit (fits : ℤ → Type 0) (t : NumberTable) : Type 0 where
  pub greatest : ℕ
  pub is_greatest : IsGreatestWeight t greatest
  pub product : fits (pos ((2 * t.rows + 4) * greatest))
  pub negation : fits (neg_ℤ (pos ((2 * t.rows + 4) * greatest)))
