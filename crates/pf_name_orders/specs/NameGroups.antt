-- Names in groups by depth: by the number of steps of the longest walk to them.
use Rattle.std.specs.Prelude.{◌≡◌, ◌↔◌, ℕ, Bool, List, Some, [], slice_get}
use Rattle.pf_base.specs.Walks.{HasNode, NoRepeats}
use Rattle.pf_orders.specs.GroupDepths.{HasDepth}

module _ {N : Type 0} (eq : N → N → Bool) where
  -- the group of number k has the name
  abbrev pub IsInGroup : List (List N) → ℕ → N → Type 0
  IsInGroup groups k x = (group : List N) × (slice_get groups k ≡ Some group) × HasNode eq group x

  module _ (successors : N → List N) (names : List N) where
    -- the group of number k has exactly those of the names whose depth is k, each once, and no group is empty
    pub record AreNameGroups (groups : List (List N)) : Type 0 where
      pub exact : (k : ℕ) (x : N) → IsInGroup groups k x ↔ (HasNode eq names x × HasDepth eq successors names x k)
      pub full : (k : ℕ) (group : List N) → slice_get groups k ≡ Some group → ¬ (group ≡ [])
      pub once : (k : ℕ) (group : List N) → slice_get groups k ≡ Some group → NoRepeats eq group
