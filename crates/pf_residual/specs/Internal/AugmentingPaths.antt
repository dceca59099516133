-- Paths along which flow is added, and the potential that each of them raises.
use Rattle.std.specs.Prelude.{◌≡◌, ◌≤◌, ◌<◌, ◌+◌, ◌-◌, ◌<ℤ◌, ◌+ℤ◌, ℕ, ℤ, suc, pos, Bool, List, length, nat_eq, slice_index, if◌then◌else◌}
use Rattle.pf_residual.specs.Flows.{PairTable, Same, count_to, is_positive, are_linked}
use Rattle.pf_base.specs.Sums.{sum_to}
use Rattle.pf_residual.specs.Networks.{Network, capacity}
use Rattle.pf_residual.specs.Internal.Balances.{IsBalanced}

-- a path from the source to the sink, without repeats, along pairs with residual capacity
pub record IsAugmentingPath (N : Network) (path : List ℕ) : Type 0 where
  pub long : 1 < length path
  pub first : slice_index path 0 ≡ N.source
  pub last : slice_index path (length path - 1) ≡ N.sink
  pub inside : (k : ℕ) → k < length path → slice_index path k < N.vertices
  pub once : (j k : ℕ) → j < length path → k < length path → slice_index path j ≡ slice_index path k → j ≡ k
  pub left : (k : ℕ) → k + 1 < length path → pos 0 <ℤ N.residual (slice_index path k) (slice_index path (k + 1))

-- each vertex of the path is one level above the vertex before it
pub record IsLevelPath (d : ℕ → ℕ) (path : List ℕ) : Type 0 where
  pub up : (k : ℕ) → k + 1 < length path → d (slice_index path (k + 1)) ≡ suc (d (slice_index path k))

-- levels of vertices, from 0 at the source up to n: no pair with residual capacity leads up by more than one level
pub record IsLabelling (n source : ℕ) (residual : PairTable) (d : ℕ → ℕ) : Type 0 where
  pub start : d source ≡ 0
  pub top : (a : ℕ) → a < n → d a ≤ n
  pub step : (a b : ℕ) → a < n → b < n → pos 0 <ℤ residual a b → d b ≤ suc (d a)

-- levels that go up along the path stay a labelling
abbrev pub KeepsLabelling : List ℕ → Network → Network → Type 0
KeepsLabelling path N M = (d : ℕ → ℕ) → IsLevelPath d path → IsLabelling N.vertices N.source N.residual d → IsLabelling N.vertices N.source M.residual d

-- what a pair adds to the potential: nothing, or the level of its first end while it has residual capacity, and else of its second
abbrev pub weight : Bool → Bool → ℕ → ℕ → ℕ
weight linked left here there = if linked then (if left then here else there) else 0

-- the sum of the levels of all pairs with capacity in either direction
abbrev pub potential : ℕ → PairTable → PairTable → (ℕ → ℕ) → ℕ
potential n capacity residual d = count_to (λ a. count_to (λ b. weight (are_linked capacity a b) (is_positive (residual a b)) (d a) (d b)) n) n

-- the potential of levels over the pairs with capacity in N, of which M has something left, or nothing
abbrev pub potential_in : Network → Network → (ℕ → ℕ) → ℕ
potential_in N M d = potential N.vertices (capacity N) M.residual d

-- the potential of levels that go up along the path rises
abbrev pub RaisesPotential : List ℕ → Network → Network → Type 0
RaisesPotential path N M = (d : ℕ → ℕ) → IsLevelPath d path → potential_in N N d < potential_in N M d

-- ticks rise by at most as much as the potential of the levels
abbrev pub TicksWithinRise : (ℕ → ℕ) → Network → Network → ℕ → ℕ → Type 0
TicksWithinRise d N M before after = after + potential_in N N d ≤ before + potential_in N M d

-- the amount at one vertex, and 0 at others
abbrev pub amount_at : ℕ → ℤ → ℕ → ℤ
amount_at at amount a = if nat_eq a at then amount else pos 0

-- the amount is added along the first k steps of the path
pub record IsPushed (fits : ℤ → Type 0) (N : Network) (path : List ℕ) (amount : ℤ) (k : ℕ) (M : Network) : Type 0 where
  pub vertices : M.vertices ≡ N.vertices
  pub source : M.source ≡ N.source
  pub sink : M.sink ≡ N.sink
  pub total : M.total ≡ N.total
  pub details : M.details ≡ N.details
  pub capacities : Same (capacity N) (capacity M)
  pub balanced : IsBalanced fits M
  pub rows : (a : ℕ) → a < M.vertices → sum_to (M.flow a) M.vertices +ℤ amount_at (slice_index path k) amount a ≡ sum_to (N.flow a) M.vertices +ℤ amount_at N.source amount a
  pub ahead : (j : ℕ) → k ≤ j → j + 1 < length path → M.residual (slice_index path j) (slice_index path (j + 1)) ≡ N.residual (slice_index path j) (slice_index path (j + 1))

-- levels that go up along the path stay a labelling, and the potential does not fall; where a step of the path is filled, it rises
pub record KeepsLevels (N : Network) (path : List ℕ) (amount : ℤ) (k : ℕ) (M : Network) : Type 0 where
  pub labelled : KeepsLabelling path N M
  pub kept : (d : ℕ → ℕ) → IsLevelPath d path → potential_in N N d ≤ potential_in N M d
  pub raised : (d : ℕ → ℕ) (j : ℕ) → IsLevelPath d path → j < k → j + 1 < length path → N.residual (slice_index path j) (slice_index path (j + 1)) ≡ amount → potential_in N N d < potential_in N M d
