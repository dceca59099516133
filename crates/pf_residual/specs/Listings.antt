-- Lists of vertices and of pairs of vertices, in rising order.
use Rattle.std.specs.Prelude.{◌≡◌, ◌≢◌, ◌<ℤ◌, ◌<◌, ◌⊎◌, ℕ, ℤ, pos, Bool, true, false, List, [], Vec, Some, slice_get}
use Rattle.pf_residual.specs.Flows.{PairTable}
use Rattle.pf_residual.specs.Networks.{Network, capacity, IsCutOfTotal}

-- each vertex before the next
abbrev pub IsRising : List ℕ → Type 0
IsRising ends = (i j a b : ℕ) → i < j → slice_get ends i ≡ Some a → slice_get ends j ≡ Some b → a < b

-- the vertices with this property, each once, in rising order
pub record ListsVertices (n : ℕ) (chosen : ℕ → Type 0) (ends : List ℕ) : Type 0 where
  pub rising : IsRising ends
  pub sound : (i a : ℕ) → slice_get ends i ≡ Some a → (a < n) × chosen a
  pub complete : (a : ℕ) → a < n → chosen a → (i : ℕ) × (slice_get ends i ≡ Some a)

-- a pair before another: by first, then by second vertex
abbrev pub IsBefore : (ℕ × ℕ) → (ℕ × ℕ) → Type 0
IsBefore p q = (p.0 < q.0) ⊎ ((p.0 ≡ q.0) × (p.1 < q.1))

module _ {C : Type 0} (value : C → ℤ) where
  -- the vertices at which the numbers are above 0, each once with its number, in rising order
  pub record ListsNumbers (n : ℕ) (numbers : ℕ → ℤ) (ends : List (ℕ × C)) : Type 0 where
    pub rising : (i j : ℕ) (d e : ℕ × C) → i < j → slice_get ends i ≡ Some d → slice_get ends j ≡ Some e → d.0 < e.0
    pub sound : (i : ℕ) (e : ℕ × C) → slice_get ends i ≡ Some e → (e.0 < n) × (value e.1 ≡ numbers e.0) × (pos 0 <ℤ value e.1)
    pub complete : (a : ℕ) → a < n → pos 0 <ℤ numbers a → (i : ℕ) × (c : C) × (slice_get ends i ≡ Some (a, c))

  -- the chosen pairs of vertices, each once with its number, in rising order
  pub record ListsPairs (n : ℕ) (chosen : ℕ → ℕ → Type 0) (table : PairTable) (edges : List ((ℕ × ℕ) × C)) : Type 0 where
    pub rising : (i j : ℕ) (d e : (ℕ × ℕ) × C) → i < j → slice_get edges i ≡ Some d → slice_get edges j ≡ Some e → IsBefore d.0 e.0
    pub sound : (i : ℕ) (e : (ℕ × ℕ) × C) → slice_get edges i ≡ Some e → (e.0.0 < n) × (e.0.1 < n) × chosen e.0.0 e.0.1 × (value e.1 ≡ table e.0.0 e.0.1)
    pub complete : (a b : ℕ) → a < n → b < n → chosen a b → (i : ℕ) × (c : C) × (slice_get edges i ≡ Some ((a, b), c))

  -- the pairs with flow, by rising pair
  abbrev pub ListsFlows : Network → List ((ℕ × ℕ) × C) → Type 0
  ListsFlows N = ListsPairs N.vertices (λ a b. pos 0 <ℤ N.flow a b) N.flow

  -- the pairs with capacity that leave the side, by rising pair
  abbrev pub ListsCut : Network → (ℕ → Bool) → List ((ℕ × ℕ) × C) → Type 0
  ListsCut N side = ListsPairs N.vertices (λ a b. (side a ≡ true) × (side b ≡ false) × (pos 0 <ℤ capacity N a b)) (capacity N)

  -- where source and sink differ, the pairs with capacity that leave the smallest side of a least cut, whose capacity is the total
  abbrev pub ListsLeastCut : Network → List ((ℕ × ℕ) × C) → Type 0
  ListsLeastCut N edges = N.source ≢ N.sink → (side : ℕ → Bool) × IsCutOfTotal N side × ListsCut N side edges

  -- what `augment` answers of the network that it leaves: flows above 0, the total, and the edges of a least cut
  pub record IsFlowAnswer {A : Type 0} (N : Network) (answer : Vec ((ℕ × ℕ) × C) A × C × Vec ((ℕ × ℕ) × C) A) : Type 0 where
    -- the total is that of the flow
    pub total : value answer.1 ≡ N.total
    -- with details the flows are listed
    pub flows : N.details ≡ true → ListsFlows N answer.0.items
    -- and so are the edges of a least cut
    pub cut_edges : N.details ≡ true → ListsLeastCut N answer.2.items
    -- where source and sink are one, there is no flow and no cut
    pub idle : N.source ≡ N.sink → (answer.0.items ≡ []) × (value answer.1 ≡ pos 0) × (answer.2.items ≡ [])
    -- without details both lists are empty
    pub omitted : N.details ≡ false → (answer.0.items ≡ []) × (answer.2.items ≡ [])
