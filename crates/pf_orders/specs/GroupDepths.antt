-- Nodes in groups by depth: by the number of steps of the longest walk to them.
use Rattle.std.specs.Prelude.{◌≡◌, ◌≤◌, ◌+◌, ◌↔◌, ℕ, Bool, List, Some, [], Vec, length, slice_get}
use Rattle.pf_base.specs.Walks.{HasNode, NoRepeats, IsGoalWalk}
use Rattle.pf_base.specs.Successors.{HasSuccessor}

module _ {N : Type 0} (eq : N → N → Bool) where
  -- the group of number k has the node
  abbrev pub InGroup : {A : Type 0} → List (Vec N A) → ℕ → N → Type 0
  InGroup {A} groups k x = (group : Vec N A) × (slice_get groups k ≡ Some group) × HasNode eq group.items x

  -- no group is empty, and no node stands twice in a group
  pub record AreFull {A : Type 0} (groups : List (Vec N A)) : Type 0 where
    pub full : (k : ℕ) (group : Vec N A) → slice_get groups k ≡ Some group → ¬ (group.items ≡ [])
    pub once : (k : ℕ) (group : Vec N A) → slice_get groups k ≡ Some group → NoRepeats eq group.items

  module _ (successors : N → List N) (nodes : List N) where
    -- each successor of one of the nodes is one of them
    abbrev pub AreClosed : Type 0
    AreClosed = (x y : N) → HasNode eq nodes x → HasSuccessor eq successors x y → HasNode eq nodes y

    -- some walk from one of the nodes to x has k steps, and none has more
    pub record HasDepth (x : N) (k : ℕ) : Type 0 where
      pub walk : List N
      pub comes : IsGoalWalk eq (HasSuccessor eq successors) nodes (λ y. eq y x) walk
      pub steps : length walk ≡ k + 1
      pub longest : (other : List N) → IsGoalWalk eq (HasSuccessor eq successors) nodes (λ y. eq y x) other → length other ≤ k + 1

    -- the group of number k has exactly those of the nodes whose depth is k, each once, and no group is empty
    pub record AreDepthGroups {A : Type 0} (groups : List (Vec N A)) : Type 0 where
      pub exact : (k : ℕ) (x : N) → InGroup groups k x ↔ (HasNode eq nodes x × HasDepth x k)
      pub full : AreFull groups

    -- exactly those of the nodes that have no depth, each once
    pub record HaveNoDepth (remaining : List N) : Type 0 where
      pub exact : (x : N) → HasNode eq remaining x ↔ (HasNode eq nodes x × ((k : ℕ) → ¬ (HasDepth x k)))
      pub once : NoRepeats eq remaining
