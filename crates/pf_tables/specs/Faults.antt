-- What the makers of tables test.
use Rattle.std.specs.Prelude.{◌≡◌, ◌<◌, ◌≤◌, ◌≤ℤ◌, ◌<ℤ◌, ℕ, ℤ, pos, List, Some, slice_get}
use Rattle.pf_tables.specs.declared.error.TableError.{TableError}
use Rattle.pf_tables.specs.declared.error.TableError.TheVariants.{TargetOutside, NegativeCost}

module _ {C : Type 0} (value : C → ℤ) (size : ℕ) where
  -- the edge leads to a node, and costs no less than 0
  pub record IsSound (edge : ℕ × C) : Type 0 where
    pub inside : edge.0 < size
    pub from_zero : pos 0 ≤ℤ value edge.1

  -- the error names this place of this node, and what is wrong with the edge there
  abbrev pub IsFaultAt : ℕ → ℕ → ℕ × C → TableError → Type 0
  IsFaultAt node place edge (TargetOutside n p) = (n ≡ node) × (p ≡ place) × (size ≤ edge.0)
  IsFaultAt node place edge (NegativeCost n p) = (n ≡ node) × (p ≡ place) × (edge.0 < size) × (value edge.1 <ℤ pos 0)
  IsFaultAt node place edge _ = ⊥

  -- each edge of a row is sound
  abbrev pub IsSoundRow : List (ℕ × C) → Type 0
  IsSoundRow row = (place : ℕ) (edge : ℕ × C) → slice_get row place ≡ Some edge → IsSound edge

  -- the error names the first edge of the row of a node that is not sound
  pub record IsFirstFaultOfRow (node : ℕ) (row : List (ℕ × C)) (error : TableError) : Type 0 where
    pub place : ℕ
    pub edge : ℕ × C
    pub stands : slice_get row place ≡ Some edge
    pub fault : IsFaultAt node place edge error
    pub before : (k : ℕ) (other : ℕ × C) → k < place → slice_get row k ≡ Some other → IsSound other

  -- The error names the first edge that is not sound: the rows of the nodes below its node are sound, and what stands before it in its row.
  pub record IsFirstFault (rows : ℕ → List (ℕ × C)) (error : TableError) : Type 0 where
    pub node : ℕ
    pub inside : node < size
    pub first : IsFirstFaultOfRow node (rows node) error
    pub before : (n : ℕ) → n < node → IsSoundRow (rows n)
