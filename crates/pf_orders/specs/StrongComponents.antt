-- Strong components of graphs without costs: `successors x` lists the nodes that follow x.
use Rattle.std.specs.Prelude.{◌≡◌, ◌↔◌, ◌<◌, ◌≤◌, ℕ, Bool, List, [], ◌∷◌, Some, Vec, slice_get, length, map}
use Rattle.pf_base.specs.Walks.{HasNode, NoRepeats, IsReachable}
use Rattle.pf_base.specs.Successors.{HasSuccessor}

-- the lists of elements
abbrev pub lists_of : {T A : Type 0} → List (Vec T A) → List (List T)
lists_of {T} {A} vs = map (λ (v : Vec T A). v.items) vs

module _ {N : Type 0} (eq : N → N → Bool) where
  -- the list with this index has the node
  abbrev pub IsInComponent : List (List N) → ℕ → N → Type 0
  IsInComponent components i x = (c : List N) × (slice_get components i ≡ Some c) × HasNode eq c x

  module _ (successors : N → List N) where
    -- some walk leads from x to y
    abbrev pub Reaches : N → N → Type 0
    Reaches x y = IsReachable eq (HasSuccessor eq successors) (x ∷ []) y

    -- two nodes are in the same strong component: each is in reach of the other
    pub record StronglyConnected (x y : N) : Type 0 where
      pub forth : Reaches x y
      pub back : Reaches y x

    -- the list has the nodes of the strong component of x, each once
    pub record IsStrongComponentOf (x : N) (component : List N) : Type 0 where
      pub has : (y : N) → HasNode eq component y ↔ StronglyConnected x y
      pub distinct : NoRepeats eq component

    -- The lists are the strong components of the nodes in reach of the starts. Each node in reach is in one of them, two nodes are in the same one exactly where each is in reach of the other, no node stands twice in one, and none is empty. Each component stands behind every other that it reaches.
    pub record AreStrongComponents (starts : List N) (components : List (List N)) : Type 0 where
      pub complete : (x : N) → IsReachable eq (HasSuccessor eq successors) starts x → (i : ℕ) × IsInComponent components i x
      pub reached : (i : ℕ) (x : N) → IsInComponent components i x → IsReachable eq (HasSuccessor eq successors) starts x
      pub same : (i j : ℕ) (x y : N) → IsInComponent components i x → IsInComponent components j y → (i ≡ j) ↔ StronglyConnected x y
      pub distinct : (i : ℕ) (c : List N) → slice_get components i ≡ Some c → NoRepeats eq c
      pub filled : (i : ℕ) (c : List N) → slice_get components i ≡ Some c → 0 < length c
      pub behind : (i j : ℕ) (x y : N) → IsInComponent components i x → IsInComponent components j y → Reaches x y → j ≤ i
