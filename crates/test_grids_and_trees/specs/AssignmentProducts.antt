-- The table of row times column, and that of its negations.
use Rattle.std.specs.Prelude.{ℕ, ℤ, pos, neg_ℤ, ◌*◌, Bool, true, false}
use Rattle.pf_assignment.specs.Assignments.{NumberTable}

-- row times column, or its negation
abbrev pub product_at : Bool → ℕ → ℕ → ℤ
product_at true r c = neg_ℤ (pos (r * c))
product_at false r c = pos (r * c)

-- the square table of these
abbrev pub product_table : Bool → ℕ → NumberTable
product_table negated size = record { rows = size; columns = size; at = product_at negated }
