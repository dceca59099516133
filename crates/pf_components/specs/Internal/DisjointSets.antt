-- Groups of vertices while they are gathered, a vertex of a group at a time.
use Rattle.std.specs.Prelude.{◌≡◌, ◌↔◌, ◌<◌, ◌^◌, ◌-◌, ℕ, suc, Bool, true, List, [], ◌∷◌, ◌++◌, Some, Vec, slice_get, slice_index, length, nat_eq, Contains, map}
use Rattle.std.specs.Borrow.{Bor}
use Rattle.std.specs.HashMap.{HashMap, get}
use Rattle.std.specs.List.{IsDistinct}
use Rattle.pf_union_find.specs.Joined.{Joined}
use Rattle.pf_union_find.specs.Nodes.{StandsFor}
use Rattle.pf_union_find.specs.Rows.{HasItem, row_count}
use Rattle.pf_union_find.specs.UnionFind.{IsSound, IsLabelling}

abbrev pub pair_with : {N : Type 0} → ℕ → N → ℕ × N
pair_with k x = (k, x)

-- the vertices of the groups in order, each with the number of its group, where the first group is number k
abbrev pub pairs_from : {N A : Type 0} → ℕ → List (Vec N A) → List (ℕ × N)
pairs_from k [] = []
pairs_from k (g ∷ gs) = map (pair_with k) g.items ++ pairs_from (suc k) gs

module _ {N : Type 0} (eq : N → N → Bool) where
  -- groups i and j share a vertex of these
  abbrev pub PairsLink : List (ℕ × N) → ℕ → ℕ → Type 0
  PairsLink pairs i j = (p : ℕ × N) × (q : ℕ × N) × Contains pairs p × Contains pairs q × (p.0 ≡ i) × (q.0 ≡ j) × (eq p.1 q.1 ≡ true)

  -- The nodes are apart, `first` has for each node the first group that it stands in, and groups are in one disjoint set exactly where chains of shared vertices join them.
  pub record IsGathered (pairs : List (ℕ × N)) (nodes : List (Bor N)) (first : List ℕ) (parents : List ℕ) : Type 0 where
    pub sound : IsSound parents
    pub label : ℕ → ℕ
    pub labels : IsLabelling label parents
    pub apart : IsDistinct (λ (p q : Bor N). eq p.now q.now) nodes
    pub len : length first ≡ length nodes
    pub inside : (k j : ℕ) → slice_get first k ≡ Some j → j < length parents
    pub found : (k j : ℕ) (m : Bor N) → slice_get nodes k ≡ Some m → slice_get first k ≡ Some j → (p : ℕ × N) × Contains pairs p × (p.0 ≡ j) × (eq p.1 m.now ≡ true)
    pub noted : (p : ℕ × N) → Contains pairs p → (k : ℕ) × (j : ℕ) × StandsFor eq nodes k p.1 × (slice_get first k ≡ Some j) × (label j ≡ label p.0)
    pub same_set : (i j : ℕ) → label i ≡ label j → Joined nat_eq (PairsLink pairs) i j
    pub joined : (i j : ℕ) → Joined nat_eq (PairsLink pairs) i j → label i ≡ label j

-- id is the identifier of group k: its label, below n, or the greatest `usize` where it has no members
abbrev pub IsIdOf : {N : Type 0} → (ℕ → ℕ) → ℕ → ℕ → List N → ℕ → Type 0
IsIdOf label n k [] id = id ≡ 2 ^ 64 - 1
IsIdOf label n k (x ∷ xs) id = (id ≡ label k) × (id < n)

-- each group has its identifier
abbrev pub Identifies : {N A : Type 0} → (ℕ → ℕ) → ℕ → List (Vec N A) → List ℕ → Type 0
Identifies {N} {A} label n groups ids = (i : ℕ) (g : Vec N A) → slice_get groups i ≡ Some g → (id : ℕ) × (slice_get ids i ≡ Some id) × IsIdOf label n i g.items id

-- the map has each node, with the identifier of its first group, and no other node
pub record MapsByFirst {N S : Type 0} (eq : N → N → Bool) (nodes : List (Bor N)) (first ids : List ℕ) (of_vertex : HashMap (Bor N) ℕ S) : Type 0 where
  pub found : (r : Bor N) (id : ℕ) → get (λ (p q : Bor N). eq p.now q.now) of_vertex r ≡ Some id
      → (k : ℕ) × (m : Bor N) × (j : ℕ) × (slice_get nodes k ≡ Some m) × (eq m.now r.now ≡ true) × (slice_get first k ≡ Some j) × (slice_get ids j ≡ Some id)
  pub noted : (k : ℕ) (m : Bor N) (j : ℕ) → slice_get nodes k ≡ Some m → slice_get first k ≡ Some j → (r : Bor N) → eq m.now r.now ≡ true
      → (id : ℕ) × (get (λ (p q : Bor N). eq p.now q.now) of_vertex r ≡ Some id)

-- the groups are in disjoint sets, joined where they share vertices, and have their identifiers
abbrev pub AreDisjointSets : {N A : Type 0} → (N → N → Bool) → List (Vec N A) → List (Bor N) → List ℕ → List ℕ → Type 0
AreDisjointSets eq groups nodes first ids = (parents : List ℕ) × (g : IsGathered eq (pairs_from 0 groups) nodes first parents) × Identifies g.label (length groups) groups ids × (length ids ≡ length groups) × (length parents ≡ length groups)

-- the identifiers that have nodes are numbered, and `sizes` has their counts by these numbers
pub record AreNumbered (counts numbers sizes : List ℕ) : Type 0 where
  pub low : (id : ℕ) → 0 < slice_index counts id → slice_index numbers id < length sizes
  pub size : (id : ℕ) → 0 < slice_index counts id → slice_index sizes (slice_index numbers id) ≡ slice_index counts id
  pub apart : (a b : ℕ) → 0 < slice_index counts a → 0 < slice_index counts b → slice_index numbers a ≡ slice_index numbers b → a ≡ b
  pub owned : (p : ℕ) → p < length sizes → (id : ℕ) × (0 < slice_index counts id) × (slice_index numbers id ≡ p)

-- the nodes are in rows, those whose first groups have one identifier in the row of its number
pub record AreLaidOut {N : Type 0} (nodes : List (Bor N)) (first ids numbers : List ℕ) (rows : List ℕ × List ℕ × List (Bor N)) : Type 0 where
  pub from : (row : ℕ) (m : Bor N) → HasItem rows row m → (k : ℕ) × (j : ℕ) × (id : ℕ) × (slice_get nodes k ≡ Some m) × (slice_get first k ≡ Some j) × (slice_get ids j ≡ Some id) × (slice_index numbers id ≡ row)
  pub all : (k : ℕ) (m : Bor N) (j id : ℕ) → slice_get nodes k ≡ Some m → slice_get first k ≡ Some j → slice_get ids j ≡ Some id → HasItem rows (slice_index numbers id) m

-- the nodes are in rows, one for each identifier that a first group has
pub record HaveRows {N : Type 0} (nodes : List (Bor N)) (first ids : List ℕ) (rows : List ℕ × List ℕ × List (Bor N)) : Type 0 where
  pub numbers : List ℕ
  pub laid : AreLaidOut nodes first ids numbers rows
  pub apart : (k l i j a b : ℕ) → slice_get first k ≡ Some i → slice_get first l ≡ Some j → slice_get ids i ≡ Some a → slice_get ids j ≡ Some b → slice_index numbers a ≡ slice_index numbers b → a ≡ b
  pub some : (row : ℕ) → row < row_count rows → (m : Bor N) × HasItem rows row m

-- each set has the nodes of its row
pub record HaveSets {N T : Type 0} (eq : N → N → Bool) (has : T → N → Bool) (rows : List ℕ × List ℕ × List (Bor N)) (sets : List T) : Type 0 where
  pub members : (row : ℕ) (s : T) (x : N) → slice_get sets row ≡ Some s → (has s x ≡ true) ↔ ((m : Bor N) × HasItem rows row m × (eq m.now x ≡ true))

-- the groups are in disjoint sets, whose nodes are in rows
abbrev pub AreRowsOf : {N A : Type 0} → (N → N → Bool) → List (Vec N A) → List ℕ × List ℕ × List (Bor N) → Type 0
AreRowsOf {N} {A} eq groups rows = (nodes : List (Bor N)) × (first : List ℕ) × (ids : List ℕ) × AreDisjointSets eq groups nodes first ids × HaveRows nodes first ids rows
