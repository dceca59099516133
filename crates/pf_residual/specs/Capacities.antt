-- Capacities that are handed in, and when they are refused.
use Rattle.std.specs.Prelude.{◌≡◌, ◌≤ℤ◌, ◌+ℤ◌, ◌<ℤ◌, ◌<◌, ◌+◌, ◌*◌, ◌⊎◌, ◌++◌, ℕ, ℤ, pos, List, [], ◌∷◌, length, fold, ⊤}
use Rattle.pf_base.specs.declared.error.PathError.{PathError}
use Rattle.pf_base.specs.declared.error.PathError.TheVariants.{OutOfMemory, UnknownVertex, CostOverflow, NegativeCapacity}
use Rattle.pf_base.specs.Places.{number}
use Rattle.pf_matrix.specs.Tables.{Table}
use Rattle.pf_residual.specs.Flows.{PairTable, pair_sum, replaced, IsNonNegative}
use Rattle.pf_residual.specs.Networks.{Network, capacity}

-- the numbers of a square's values by rows, the first row first
abbrev pub square_table : {C : Type 0} → (C → ℤ) → ℕ → List C → PairTable
square_table value n values a b = number value values (a * n + b)

-- the numbers of the values of a square matrix
abbrev pub matrix_table : {C : Type 0} → (C → ℤ) → Table C → PairTable
matrix_table value matrix = square_table value matrix.rows matrix.values

-- the values are those of a square by rows
abbrev pub AreSquare : {C : Type 0} → List C → Type 0
AreSquare values = (side : ℕ) × (side * side ≡ length values)

-- P holds of the side of the square
abbrev pub OfSide : {C : Type 0} → List C → (ℕ → Type 0) → Type 0
OfSide values P = (side : ℕ) → side * side ≡ length values → P side

-- some number of the table is below 0
abbrev pub HasNegative : ℕ → PairTable → Type 0
HasNegative n t = (a : ℕ) × (b : ℕ) × (a < n) × (b < n) × (t a b <ℤ pos 0)

-- why such capacities are refused: for memory, for one below 0, or else for their sum, which does not fit
abbrev pub AreRefused : (ℤ → Type 0) → ℕ → PairTable → PathError → Type 0
AreRefused fits n t e =
    (e ≡ OutOfMemory)
    ⊎ ((e ≡ NegativeCapacity) × HasNegative n t)
    ⊎ ((e ≡ CostOverflow) × IsNonNegative n t × (¬ (fits (pair_sum n t))))

-- where this capacity is not above the flow of the pair, the total falls by at most what the flow is above it
abbrev pub FallsByExcess : ℕ → ℕ → ℤ → Network → Network → Type 0
FallsByExcess from to c N M = c ≤ℤ N.flow from to → (N.total +ℤ c) ≤ℤ (M.total +ℤ N.flow from to)

-- why this capacity of a pair is refused: for memory, because it is below 0, or else for the sum of all capacities after the change, which does not fit
abbrev pub IsChangeRefused : (ℤ → Type 0) → Network → ℕ → ℕ → ℤ → PathError → Type 0
IsChangeRefused fits N from to c e =
    (e ≡ OutOfMemory)
    ⊎ ((e ≡ NegativeCapacity) × (c <ℤ pos 0))
    ⊎ ((e ≡ CostOverflow) × (pos 0 ≤ℤ c) × (¬ (fits (pair_sum N.vertices (replaced (capacity N) from to c)))))

module _ {C : Type 0} (value : C → ℤ) where
  -- the table with the capacity of an edge in the place of that of its pair of vertices
  abbrev pub with_edge : PairTable → (ℕ × ℕ) × C → PairTable
  with_edge t e = replaced t e.0.0 e.0.1 (value e.1)

  -- the capacities that edges between numbered vertices give in turn: of each pair that of its last edge, and 0 where it has none
  abbrev pub edge_table : List ((ℕ × ℕ) × C) → PairTable
  edge_table edges = fold with_edge (λ a b. pos 0) edges

  module _ (fits : ℤ → Type 0) (n : ℕ) where
    -- after edges that give this table, an edge between vertices below n, whose capacity is not below 0, and with which the sum of all capacities fits
    pub record IsTaken (t : PairTable) (e : (ℕ × ℕ) × C) : Type 0 where
      pub from : e.0.0 < n
      pub to : e.0.1 < n
      pub above : pos 0 ≤ℤ value e.1
      pub sum : fits (pair_sum n (with_edge t e))

    -- each edge in turn is such a one
    abbrev pub AreTaken : PairTable → List ((ℕ × ℕ) × C) → Type 0
    AreTaken t [] = ⊤
    AreTaken t (e ∷ es) = IsTaken t e × AreTaken (with_edge t e) es

    -- why an edge is not taken: one of its ends is no vertex, or else its capacity is below 0, or else the sum of all capacities with it does not fit
    abbrev pub IsEdgeFault : PairTable → (ℕ × ℕ) × C → PathError → Type 0
    IsEdgeFault t e r =
        ((r ≡ UnknownVertex) × ((¬ (e.0.0 < n)) ⊎ (¬ (e.0.1 < n))))
        ⊎ ((r ≡ NegativeCapacity) × (e.0.0 < n) × (e.0.1 < n) × (value e.1 <ℤ pos 0))
        ⊎ ((r ≡ CostOverflow) × (e.0.0 < n) × (e.0.1 < n) × (pos 0 ≤ℤ value e.1) × (¬ (fits (pair_sum n (with_edge t e)))))

    -- this is why the first edge that is not taken is refused
    pub record IsFirstFault (edges : List ((ℕ × ℕ) × C)) (r : PathError) : Type 0 where
      pub before : List ((ℕ × ℕ) × C)
      pub edge : (ℕ × ℕ) × C
      pub behind : List ((ℕ × ℕ) × C)
      pub listed : edges ≡ before ++ edge ∷ behind
      pub taken : AreTaken (λ a b. pos 0) before
      pub why : IsEdgeFault (edge_table before) edge r

    -- why a source, a sink and edges are refused: for memory, or because source or sink is no vertex, or else for the first edge that is not taken
    abbrev pub AreEdgesFaulty : ℕ → ℕ → List ((ℕ × ℕ) × C) → PathError → Type 0
    AreEdgesFaulty source sink edges r =
        (r ≡ OutOfMemory)
        ⊎ ((r ≡ UnknownVertex) × ((¬ (source < n)) ⊎ (¬ (sink < n))))
        ⊎ ((source < n) × (sink < n) × IsFirstFault edges r)
