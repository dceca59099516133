-- What a contract sees of a store of flows.
use Rattle.std.specs.Prelude.{◌≡◌, ◌≢◌, ◌≤ℤ◌, ◌+ℤ◌, ◌<◌, ◌*◌, ℕ, ℤ, pos, neg_ℤ, Bool, true, false}
use Rattle.pf_residual.specs.Flows.{PairTable, added, replaced, pair_sum, pair_count, flow_value, cut_capacity, Same, IsNonNegative, IsAntisymmetric, IsFeasibleFlow, IsSmallestLeastCut}

-- vertices 0 to n - 1, a source and a sink; what is left of each capacity, and the flow; a total; whether flows and cuts are listed; and which pairs have room
pub record Network : Type 0 where
  pub vertices : ℕ
  pub source : ℕ
  pub sink : ℕ
  pub residual : PairTable
  pub flow : PairTable
  pub total : ℤ
  pub details : Bool
  pub room : ℕ → ℕ → Bool

-- a capacity is what is left of it, and the flow
abbrev pub capacity : Network → PairTable
capacity N a b = N.residual a b +ℤ N.flow a b

-- source and sink are vertices; with a pair that has room its reverse has it; only pairs of vertices have room; where there is none, there is neither residual capacity nor flow; and the flow is antisymmetric
pub record IsStored (N : Network) : Type 0 where
  pub source_in : N.source < N.vertices
  pub sink_in : N.sink < N.vertices
  pub back : (a b : ℕ) → N.room a b ≡ true → N.room b a ≡ true
  pub inside : (a b : ℕ) → N.room a b ≡ true → (a < N.vertices) × (b < N.vertices)
  pub empty : (a b : ℕ) → N.room a b ≡ false → (N.residual a b ≡ pos 0) × (N.flow a b ≡ pos 0)
  pub opposite : IsAntisymmetric N.flow

-- the network with this much more flow at a pair, and as much less at its reverse
abbrev pub with_flow : ℕ → ℕ → ℤ → Network → Network
with_flow from to amount N = record N { flow = added (added N.flow from to amount) to from (neg_ℤ amount); residual = added (added N.residual from to (neg_ℤ amount)) to from amount }

-- the network with this much more residual capacity at a pair
abbrev pub with_residual : ℕ → ℕ → ℤ → Network → Network
with_residual from to amount N = record N { residual = added N.residual from to amount }

-- the network with this total
abbrev pub with_total : ℤ → Network → Network
with_total total N = record N { total = total }

-- the network without lists of flows and cuts
abbrev pub without_details : Network → Network
without_details N = record N { details = false }

-- M is N, save that more pairs may have room
pub record Agrees (N M : Network) : Type 0 where
  pub vertices : M.vertices ≡ N.vertices
  pub source : M.source ≡ N.source
  pub sink : M.sink ≡ N.sink
  pub residual : Same N.residual M.residual
  pub flow : Same N.flow M.flow
  pub total : M.total ≡ N.total
  pub details : M.details ≡ N.details
  pub room : (a b : ℕ) → N.room a b ≡ true → M.room a b ≡ true

-- M has the vertices, the ends and the details mark of N, and room wherever N has it
pub record KeepsShape (N M : Network) : Type 0 where
  pub vertices : M.vertices ≡ N.vertices
  pub source : M.source ≡ N.source
  pub sink : M.sink ≡ N.sink
  pub details : M.details ≡ N.details
  pub room : (a b : ℕ) → N.room a b ≡ true → M.room a b ≡ true

-- M has the shape and the capacities of N
pub record KeepsCapacities (N M : Network) : Type 0 where
  pub shape : KeepsShape N M
  pub capacities : Same (capacity N) (capacity M)

-- M has the shape of N, and its capacities but for one pair, which has this capacity
pub record ChangesCapacity (from to : ℕ) (number : ℤ) (N M : Network) : Type 0 where
  pub shape : KeepsShape N M
  pub capacities : Same (replaced (capacity N) from to number) (capacity M)

-- along how many paths flow is added at most: the number of vertices, times that of ordered pairs with capacity in either direction
abbrev pub path_bound : Network → ℕ
path_bound N = N.vertices * pair_count N.vertices (capacity N)

-- the sum of all capacities
abbrev pub capacity_sum : Network → ℤ
capacity_sum N = pair_sum N.vertices (capacity N)

-- The flow is feasible, its value is the total and not below 0, and there is none where source and sink are one. No capacity is below 0, and their sum fits.
pub record IsNetwork (fits : ℤ → Type 0) (N : Network) : Type 0 where
  pub feasible : IsFeasibleFlow N.vertices N.source N.sink (capacity N) N.flow
  pub value : flow_value N.vertices N.source N.flow ≡ N.total
  pub above : pos 0 ≤ℤ N.total
  pub idle : N.source ≡ N.sink → (a b : ℕ) → N.flow a b ≡ pos 0
  pub capacities : IsNonNegative N.vertices (capacity N)
  pub sum : fits (capacity_sum N)

-- a part of IsNetwork: the total is the value of the flow, and there is no flow where source and sink are one
pub record HasTotalOfFlow (N : Network) : Type 0 where
  pub value : flow_value N.vertices N.source N.flow ≡ N.total
  pub idle : N.source ≡ N.sink → (a b : ℕ) → N.flow a b ≡ pos 0

-- so many vertices, this source and sink, no flow, and flows and cuts are listed
pub record IsFresh (size from to : ℕ) (N : Network) : Type 0 where
  pub vertices : N.vertices ≡ size
  pub source : N.source ≡ from
  pub sink : N.sink ≡ to
  pub flow : (a b : ℕ) → N.flow a b ≡ pos 0
  pub total : N.total ≡ pos 0
  pub details : N.details ≡ true

-- these are the capacities
pub record HasCapacities (table : PairTable) (N : Network) : Type 0 where
  pub at : (a b : ℕ) → a < N.vertices → b < N.vertices → capacity N a b ≡ table a b

-- this is the smallest side of a least cut, and the total is its capacity
pub record IsCutOfTotal (N : Network) (side : ℕ → Bool) : Type 0 where
  pub smallest : IsSmallestLeastCut N.vertices N.source N.sink (capacity N) side
  pub worth : cut_capacity N.vertices side (capacity N) ≡ N.total

-- where source and sink differ, the total is the capacity of a least cut
abbrev pub HasCutOfTotal : Network → Type 0
HasCutOfTotal N = N.source ≢ N.sink → (side : ℕ → Bool) × IsCutOfTotal N side

-- the same vertices and ends, and the same capacities between vertices
pub record HasSameCapacities (N M : Network) : Type 0 where
  pub vertices : M.vertices ≡ N.vertices
  pub source : M.source ≡ N.source
  pub sink : M.sink ≡ N.sink
  pub capacities : (a b : ℕ) → a < N.vertices → b < N.vertices → capacity N a b ≡ capacity M a b
