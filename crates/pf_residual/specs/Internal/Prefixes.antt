-- Parts of a list of flows, as far as a loop has come.
use Rattle.std.specs.Prelude.{◌≡◌, ◌⊎◌, ◌<◌, ◌<ℤ◌, ℕ, ℤ, pos, List, Some, slice_get}
use Rattle.pf_residual.specs.Networks.{Network}
use Rattle.pf_residual.specs.Listings.{ListsPairs}

-- the vertex is one of the first i of the list
abbrev pub IsAmong : List ℕ → ℕ → ℕ → Type 0
IsAmong ends i b = (j : ℕ) × (j < i) × (slice_get ends j ≡ Some b)

module _ {C : Type 0} (value : C → ℤ) where
  -- the flows from the vertices before `from`
  abbrev pub ListsFlowsBefore : Network → ℕ → List ((ℕ × ℕ) × C) → Type 0
  ListsFlowsBefore N from = ListsPairs value N.vertices (λ a b. (a < from) × (pos 0 <ℤ N.flow a b)) N.flow

  -- and those from `from` to the first i of these ends
  abbrev pub ListsFlowsTo : Network → ℕ → List ℕ → ℕ → List ((ℕ × ℕ) × C) → Type 0
  ListsFlowsTo N from ends i = ListsPairs value N.vertices (λ a b. ((a < from) × (pos 0 <ℤ N.flow a b)) ⊎ ((a ≡ from) × IsAmong ends i b)) N.flow
