-- Levels of vertices, found by breadth first from the source over pairs with residual capacity.
use Rattle.std.specs.Prelude.{◌≡◌, ◌≢◌, ◌≤◌, ◌<◌, ◌+◌, ◌<ℤ◌, ◌&&◌, ℕ, suc, pos, Bool, List, length, nat_eq, nat_lt, not, slice_index, slice_set, ◌++◌, ◌∷◌, [], if◌then◌else◌}
use Rattle.pf_residual.specs.Flows.{count_to}
use Rattle.pf_residual.specs.Networks.{Network}
use Rattle.pf_residual.specs.Internal.AugmentingPaths.{IsLabelling}

-- a vertex that was reached has a vertex before it, one level below and with residual capacity to it
pub record HasParents (N : Network) (d parent : ℕ → ℕ) : Type 0 where
  pub inside : (a : ℕ) → a < N.vertices → d a < N.vertices → a ≢ N.source → parent a < N.vertices
  pub below : (a : ℕ) → a < N.vertices → d a < N.vertices → a ≢ N.source → suc (d (parent a)) ≡ d a
  pub left : (a : ℕ) → a < N.vertices → d a < N.vertices → a ≢ N.source → pos 0 <ℤ N.residual (parent a) a

-- the levels of all vertices, the number of vertices where one is not reached
pub record AreLevels (N : Network) (d parent : ℕ → ℕ) : Type 0 where
  pub labelling : IsLabelling N.vertices N.source N.residual d
  pub parents : HasParents N d parent
  pub closed : (a b : ℕ) → a < N.vertices → b < N.vertices → d a < N.vertices → pos 0 <ℤ N.residual a b → d b < N.vertices

-- the lists of a search that does not reach the sink
pub record IsSinkCutOff (N : Network) (levels parents : List ℕ) : Type 0 where
  pub found : AreLevels N (slice_index levels) (slice_index parents)
  pub len : length levels ≡ N.vertices
  pub top : slice_index levels N.sink ≡ N.vertices

-- how many vertices are not reached
abbrev pub unreached : ℕ → (ℕ → ℕ) → ℕ
unreached n d = count_to (λ a. if nat_eq (d a) n then 1 else 0) n

-- A search that goes on: m vertices were reached, in the order of the queue, and pairs from the first `at` of them were followed.
pub record IsSearch (N : Network) (d parent queue : ℕ → ℕ) (m at : ℕ) : Type 0 where
  pub start : d N.source ≡ 0
  pub top : (a : ℕ) → a < N.vertices → d a ≤ N.vertices
  pub parents : HasParents N d parent
  pub count : m + unreached N.vertices d ≡ N.vertices
  pub inside : (j : ℕ) → j < m → queue j < N.vertices
  pub place : (j : ℕ) → j < m → d (queue j) ≤ j
  pub queued : (a : ℕ) → a < N.vertices → d a < N.vertices → (j : ℕ) × (j < m) × (queue j ≡ a)
  pub rising : (i j : ℕ) → i ≤ j → j < m → d (queue i) ≤ d (queue j)
  pub near : (i j : ℕ) → at ≤ i → i < m → j < m → d (queue j) ≤ suc (d (queue i))
  pub followed : (j b : ℕ) → j < at → b < N.vertices → pos 0 <ℤ N.residual (queue j) b → d b ≤ suc (d (queue j))

-- the lists of a search
pub record HasFound (N : Network) (levels parents queue : List ℕ) (at : ℕ) : Type 0 where
  pub search : IsSearch N (slice_index levels) (slice_index parents) (slice_index queue) (length queue) at
  pub levels_len : length levels ≡ N.vertices
  pub parents_len : length parents ≡ N.vertices

-- a vertex is reached from another, one level above it, where it was not reached before
pub record Reaches (from level to : ℕ) (levels parents queue levels_after parents_after queue_after : List ℕ) : Type 0 where
  pub new : slice_index levels to ≡ length levels → (levels_after ≡ slice_set levels to (level + 1)) × (parents_after ≡ slice_set parents to from) × (queue_after ≡ queue ++ to ∷ [])
  pub known : slice_index levels to ≢ length levels → (levels_after ≡ levels) × (parents_after ≡ parents) × (queue_after ≡ queue)

-- a vertex above level 0 that was reached has a vertex before it, one level below
pub record IsTree (levels parents : List ℕ) : Type 0 where
  pub len : length parents ≡ length levels
  pub inside : (a : ℕ) → a < length levels → 0 < slice_index levels a → slice_index levels a < length levels → slice_index parents a < length levels
  pub below : (a : ℕ) → a < length levels → 0 < slice_index levels a → slice_index levels a < length levels → suc (slice_index levels (slice_index parents a)) ≡ slice_index levels a

-- from a place on up to the level of a vertex, the path has vertices at the places of their levels, each the one before the next
pub record IsTreePath (levels parents : List ℕ) (to : ℕ) (path : List ℕ) (from : ℕ) : Type 0 where
  pub last : slice_index path (slice_index levels to) ≡ to
  pub inside : (k : ℕ) → from ≤ k → k ≤ slice_index levels to → slice_index path k < length levels
  pub level : (k : ℕ) → from ≤ k → k ≤ slice_index levels to → slice_index levels (slice_index path k) ≡ k
  pub before : (k : ℕ) → from ≤ k → k < slice_index levels to → slice_index path k ≡ slice_index parents (slice_index path (k + 1))

-- a path from the source along pairs with residual capacity, each vertex at the place of its level
pub record IsAdmissiblePath (N : Network) (d : ℕ → ℕ) (path : List ℕ) (depth : ℕ) : Type 0 where
  pub first : slice_index path 0 ≡ N.source
  pub inside : (k : ℕ) → k ≤ depth → slice_index path k < N.vertices
  pub level : (k : ℕ) → k ≤ depth → d (slice_index path k) ≡ k
  pub left : (k : ℕ) → k < depth → pos 0 <ℤ N.residual (slice_index path k) (slice_index path (k + 1))

-- was the vertex reached?
abbrev pub reached : List ℕ → ℕ → Bool
reached levels a = nat_lt (slice_index levels a) (length levels)

-- does the pair lead from a vertex that was reached to one that was not?
abbrev pub leaves : List ℕ → ℕ → ℕ → Bool
leaves levels a b = reached levels a && not (reached levels b)
