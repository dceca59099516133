-- Stores that are filled with capacities before there is any flow.
use Rattle.std.specs.Prelude.{◌≡◌, ◌<◌, ◌≤◌, ◌+◌, ◌*◌, ℕ, ℤ, pos}
use Rattle.pf_residual.specs.Flows.{PairTable, IsNonNegative}
use Rattle.pf_residual.specs.Networks.{Network, capacity, capacity_sum, KeepsShape}

-- There is no flow. No capacity is below 0, and their sum fits.
pub record IsUnused (fits : ℤ → Type 0) (N : Network) : Type 0 where
  pub flow : (a b : ℕ) → N.flow a b ≡ pos 0
  pub total : N.total ≡ pos 0
  pub capacities : IsNonNegative N.vertices (capacity N)
  pub sum : fits (capacity_sum N)

-- M has the shape of N and no flow; its capacities are those of the table at the first k places, row by row, and 0 at the others
pub record IsFilledTo (fits : ℤ → Type 0) (table : PairTable) (k : ℕ) (N M : Network) : Type 0 where
  pub shape : KeepsShape N M
  pub unused : IsUnused fits M
  pub here : (a b : ℕ) → a < M.vertices → b < M.vertices → a * M.vertices + b < k → capacity M a b ≡ table a b
  pub there : (a b : ℕ) → a < M.vertices → b < M.vertices → k ≤ a * M.vertices + b → capacity M a b ≡ pos 0
