-- What holds of a network at each step of a change, also between the steps.
use Rattle.std.specs.Prelude.{◌≡◌, ◌+ℤ◌, ◌<◌, ℕ, ℤ, pos}
use Rattle.pf_residual.specs.Flows.{IsNonNegative}
use Rattle.pf_residual.specs.Networks.{Network, capacity, capacity_sum}

-- the flow is antisymmetric and within the capacities, of which none is below 0, and whose sum fits
pub record IsBalanced (fits : ℤ → Type 0) (N : Network) : Type 0 where
  pub opposite : (a b : ℕ) → a < N.vertices → b < N.vertices → N.flow a b +ℤ N.flow b a ≡ pos 0
  pub left : IsNonNegative N.vertices N.residual
  pub capacities : IsNonNegative N.vertices (capacity N)
  pub sum : fits (capacity_sum N)
