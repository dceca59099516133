-- Groups of vertices, and what shared vertices join. Vertices are the same where `eq` says so.
use Rattle.std.specs.Prelude.{◌≡◌, ◌≢◌, ◌↔◌, ◌<◌, ◌≤◌, ◌^◌, ◌-◌, ℕ, Bool, true, List, [], ◌∷◌, Some, Vec, slice_get, length, nat_eq}
use Rattle.std.specs.Borrow.{Bor}
use Rattle.std.specs.HashMap.{HashMap, get}
use Rattle.std.specs.HashSet.{HashSet, contains}
use Rattle.pf_base.specs.Walks.{HasNode}
use Rattle.pf_union_find.specs.Joined.{Joined}

-- where `has i x` says that group i has the vertex x: groups i and j share a vertex
abbrev pub ShareBy : {N : Type 0} → (ℕ → N → Type 0) → ℕ → ℕ → Type 0
ShareBy {N} has i j = (x : N) × has i x × has j x

-- a chain of shared vertices leads from group i to group j
abbrev pub AreChainedBy : {N : Type 0} → (ℕ → N → Type 0) → ℕ → ℕ → Type 0
AreChainedBy has = Joined nat_eq (ShareBy has)

module _ {N A : Type 0} (eq : N → N → Bool) (groups : List (Vec N A)) where
  -- group i has the vertex x
  abbrev pub InGroup : ℕ → N → Type 0
  InGroup i x = (g : Vec N A) × (slice_get groups i ≡ Some g) × HasNode eq g.items x

  -- a chain of shared vertices leads from group i to group j
  abbrev pub AreChained : ℕ → ℕ → Type 0
  AreChained = AreChainedBy InGroup

  -- Each group has an identifier below the number of groups, the same exactly for chained groups, and an empty group has the greatest `usize`.
  pub record AreIdentified (ids : List ℕ) : Type 0 where
    pub len : length ids ≡ length groups
    pub empty : (i : ℕ) (g : Vec N A) → slice_get groups i ≡ Some g → g.items ≡ [] → slice_get ids i ≡ Some (2 ^ 64 - 1)
    pub below : (i : ℕ) (g : Vec N A) (id : ℕ) → slice_get groups i ≡ Some g → g.items ≢ [] → slice_get ids i ≡ Some id → id < length groups
    pub same : (i j : ℕ) (x y : N) (a b : ℕ) → InGroup i x → InGroup j y → slice_get ids i ≡ Some a → slice_get ids j ≡ Some b → (a ≡ b) ↔ AreChained i j

  -- the map has exactly the vertices, each with the identifier of its groups
  pub record MapsVertices {S : Type 0} (ids : List ℕ) (of_vertex : HashMap (Bor N) ℕ S) : Type 0 where
    pub maps : (r : Bor N) (id : ℕ) → (get (λ (p q : Bor N). eq p.now q.now) of_vertex r ≡ Some id) ↔ ((i : ℕ) × InGroup i r.now × (slice_get ids i ≡ Some id))

module _ {N S : Type 0} (eq : N → N → Bool) (sets : List (HashSet N S)) where
  -- set i has the node x
  abbrev pub InSet : ℕ → N → Type 0
  InSet i x = (s : HashSet N S) × (slice_get sets i ≡ Some s) × (contains eq s x ≡ true)

  -- the map has exactly the nodes of the sets, each with the greatest index of a set that has it
  pub record MapsToGreatest {T : Type 0} (of_node : HashMap N ℕ T) : Type 0 where
    pub maps : (x : N) (i : ℕ) → (get eq of_node x ≡ Some i) ↔ (InSet i x × ((j : ℕ) → InSet j x → j ≤ i))

-- Where `has i x` says that group i has the vertex x: each set has the vertices of a class of groups joined by chains of shared vertices, and each vertex is in one set.
pub record AreComponentsOf {N S : Type 0} (eq : N → N → Bool) (has : ℕ → N → Type 0) (sets : List (HashSet N S)) : Type 0 where
  pub each : (k : ℕ) (s : HashSet N S) → slice_get sets k ≡ Some s → (i : ℕ) × (y : N) × has i y × ((x : N) → (contains eq s x ≡ true) ↔ ((j : ℕ) × AreChainedBy has i j × has j x))
  pub all : (i : ℕ) (x : N) → has i x → (k : ℕ) × InSet eq sets k x
  pub once : (k l : ℕ) (x : N) → InSet eq sets k x → InSet eq sets l x → k ≡ l

-- the sets are the components of the groups
abbrev pub IsComponents : {N A S : Type 0} → (N → N → Bool) → List (Vec N A) → List (HashSet N S) → Type 0
IsComponents eq groups = AreComponentsOf eq (InGroup eq groups)

-- x is the i-th start or one of those next to it
abbrev pub IsAround : {N : Type 0} → (N → N → Bool) → (N → List N) → List N → ℕ → N → Type 0
IsAround {N} eq adjacent starts i x = (s : N) × (slice_get starts i ≡ Some s) × HasNode eq (s ∷ adjacent s) x

-- the sets are the components of the starts, each with those next to it
abbrev pub IsComponentsAround : {N S : Type 0} → (N → N → Bool) → (N → List N) → List N → List (HashSet N S) → Type 0
IsComponentsAround eq adjacent starts = AreComponentsOf eq (IsAround eq adjacent starts)
