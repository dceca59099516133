-- Graphs in compact form: the edges from the node n are those of `targets` from the place `offsets[n]` up to the place `offsets[n + 1]`.
use Rattle.std.specs.Prelude.{All, ◌-◌, ◌+◌, ◌<◌, ◌≤◌, ℕ, ℤ, pos, List, map, length, take, drop, slice_index}
use Rattle.std.specs.List.Sorted.{IsNonDecreasing}

-- n is a node: there is an offset after its own
abbrev pub IsNode : List ℕ → ℕ → Type 0
IsNode offsets n = n + 1 < length offsets

-- no offset is above the next one, nor past the end
pub record IsCompact {E : Type 0} (offsets : List ℕ) (targets : List E) : Type 0 where
  pub rising : IsNonDecreasing offsets
  pub within : All (λ o. o ≤ length targets) offsets

-- what stands between the offsets of n
abbrev pub row_of : {E : Type 0} → List ℕ → List E → ℕ → List E
row_of offsets targets n = take (slice_index offsets (n + 1) - slice_index offsets n) (drop (slice_index offsets n) targets)

-- the edges from n, each with the whole number that it costs
abbrev pub edges_in : List ℕ → List (ℕ × ℕ) → ℕ → List (ℕ × ℤ)
edges_in offsets targets n = map (λ (e : ℕ × ℕ). (e.0, pos e.1)) (row_of offsets targets n)

-- the nodes after n
abbrev pub nodes_in : List ℕ → List ℕ → ℕ → List ℕ
nodes_in offsets targets n = row_of offsets targets n
