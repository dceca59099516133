-- Square tables of a store, and how they change.
use Rattle.std.specs.Prelude.{◌≡◌, ◌<◌, ◌+◌, ◌*◌, ◌+ℤ◌, ◌&&◌, ℕ, ℤ, pos, nat_eq, if◌then◌else◌}
use Rattle.pf_matrix.specs.Tables.{Table, IsMatrix}
use Rattle.pf_base.specs.Places.{number}
use Rattle.pf_residual.specs.Flows.{pair_sum}
use Rattle.pf_residual.specs.DenseStores.{table_number}

-- the numbers of all pairs of vertices, added up
abbrev pub table_sum : {C : Type 0} → (C → ℤ) → Table C → ℤ
table_sum value m = pair_sum m.rows (table_number value m.rows m)

-- n rows and n columns
pub record IsSquare {C : Type 0} (n : ℕ) (m : Table C) : Type 0 where
  pub rows : m.rows ≡ n
  pub columns : m.columns ≡ n
  pub matrix : IsMatrix m

-- both tables are squares of one size, and source and sink lie inside
pub record AreTables {C : Type 0} (source sink : ℕ) (residuals flows : Table C) : Type 0 where
  pub source_in : source < residuals.rows
  pub sink_in : sink < residuals.rows
  pub residuals_square : IsSquare residuals.rows residuals
  pub flows_square : IsSquare residuals.rows flows

-- a table with this much more at one position, and nothing else changed
pub record IsTableChanged {C : Type 0} (value : C → ℤ) (from to : ℕ) (more : ℤ) (old new : Table C) : Type 0 where
  pub rows : new.rows ≡ old.rows
  pub columns : new.columns ≡ old.columns
  pub matrix : IsMatrix new
  pub numbers : (a b : ℕ) → b < old.columns → number value new.values (a * old.columns + b)
      ≡ (if nat_eq a from && nat_eq b to then number value old.values (a * old.columns + b) +ℤ more else number value old.values (a * old.columns + b))

-- each number is 0
pub record IsZeroTable {C : Type 0} (value : C → ℤ) (n : ℕ) (m : Table C) : Type 0 where
  pub at : (a b : ℕ) → table_number value n m a b ≡ pos 0
