-- How a capacity is changed, and flow above it taken back.
use Rattle.std.specs.Prelude.{◌≡◌, ◌≢◌, ◌≤ℤ◌, ◌<ℤ◌, ◌+ℤ◌, ◌-ℤ◌, ◌<◌, ℕ, ℤ, pos}
use Rattle.pf_residual.specs.declared.cancelling.arcs.Arc.{Arc}
use Rattle.pf_residual.specs.Capacities.{FallsByExcess}
use Rattle.pf_residual.specs.Flows.{Same, pair_sum, replaced}
use Rattle.pf_residual.specs.Networks.{Network, capacity, ChangesCapacity, KeepsCapacities}

-- the capacity of a pair may become this number: its capacity before, and the sum of all capacities after
pub record IsPlanned (from to : ℕ) (before number after : ℤ) (N : Network) : Type 0 where
  pub old : before ≡ capacity N from to
  pub low : pos 0 ≤ℤ number
  pub sum : after ≡ pair_sum N.vertices (replaced (capacity N) from to number)

-- the arc is one between two vertices, and carries flow, of which the amount is a part
pub record Carries (amount : ℤ) (e : Arc) (N : Network) : Type 0 where
  pub inside : (e.from < N.vertices) × (e.to < N.vertices)
  pub apart : e.from ≢ e.to
  pub flows : pos 0 <ℤ N.flow e.from e.to
  pub less : (pos 0 ≤ℤ amount) × (amount ≤ℤ N.flow e.from e.to)

-- this much of the flow of a pair was taken back, so that the total falls by no more; the capacities are as before
pub record IsTakenBack (from to : ℕ) (amount : ℤ) (N M : Network) : Type 0 where
  pub kept : KeepsCapacities N M
  pub lowered : M.flow from to ≡ (N.flow from to -ℤ amount)
  pub total : M.total ≤ℤ N.total
  pub excess : N.total ≤ℤ (M.total +ℤ amount)

-- the flow of a pair that was above the number was taken back; the capacities are as before
pub record IsLoweredTo (from to : ℕ) (number : ℤ) (N M : Network) : Type 0 where
  pub capacities : KeepsCapacities N M
  pub lowered : M.flow from to ≤ℤ number
  pub kept : N.flow from to ≤ℤ number → Same N.flow M.flow
  pub total : M.total ≤ℤ N.total
  pub excess : FallsByExcess from to number N M

-- the capacity of a pair was set, and no flow changed
pub record SetsCapacity (from to : ℕ) (number : ℤ) (N M : Network) : Type 0 where
  pub changed : ChangesCapacity from to number N M
  pub flows : Same N.flow M.flow
  pub total : M.total ≡ N.total

-- the capacity of a pair was changed, and the flow above it taken back
pub record IsChanged (from to : ℕ) (number : ℤ) (N M : Network) : Type 0 where
  pub changed : ChangesCapacity from to number N M
  pub kept : N.flow from to ≤ℤ number → Same N.flow M.flow
  pub total : M.total ≤ℤ N.total
  pub excess : FallsByExcess from to number N M
