-- The rows of a store.
use Rattle.std.specs.Prelude.{◌≡◌, ◌<◌, ℕ, ℤ, true, List, [], length}
use Rattle.pf_residual.specs.Flows.{pair_sum}
use Rattle.pf_residual.specs.SparseRows.{ends, has_end, amount_to, row_at}
use Rattle.pf_residual.specs.Internal.RowChanges.{Rises, AreBelow}
use Rattle.pf_residual.specs.declared.sparse_row.Edge.{Edge}

-- source and sink have rows; the ends of each row rise and have rows; and each edge has its reverse
pub record AreRows {C : Type 0} (source sink : ℕ) (rows : List (List (Edge C))) : Type 0 where
  pub source_in : source < length rows
  pub sink_in : sink < length rows
  pub rises : (a : ℕ) → Rises 0 (ends (row_at rows a))
  pub below : (a : ℕ) → AreBelow (length rows) (row_at rows a)
  pub back : (a b : ℕ) → has_end (ends (row_at rows a)) b ≡ true → has_end (ends (row_at rows b)) a ≡ true

-- what is left of all capacities, added up
abbrev pub rows_sum : {C : Type 0} → (C → ℤ) → List (List (Edge C)) → ℤ
rows_sum value rows = pair_sum (length rows) (λ a b. amount_to (λ e. value e.residual) (row_at rows a) b)

-- no row has an edge
pub record AreEmpty {C : Type 0} (rows : List (List (Edge C))) : Type 0 where
  pub at : (a : ℕ) → row_at rows a ≡ []
