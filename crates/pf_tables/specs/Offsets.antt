-- Graphs in compact form.
use Rattle.std.specs.Prelude.{◌≡◌, ◌≢◌, ◌⊎◌, ◌<◌, ◌≤◌, ◌+◌, ◌-◌, ℕ, ℤ, List, length, slice_index}
use Rattle.pf_tables.specs.declared.error.TableError.{TableError}
use Rattle.pf_tables.specs.declared.error.TableError.TheVariants.{NoFirstOffset, FallingOffset, WrongLastOffset}
use Rattle.pf_tables.specs.Graphs.{IsGraph, between, filled}
use Rattle.pf_tables.specs.Faults.{IsFirstFault}

module _ (offsets : List ℕ) where
  -- no offset of a node below this one is above the next offset
  abbrev pub IsRisingTo : ℕ → Type 0
  IsRisingTo node = (n : ℕ) → n < node → slice_index offsets n ≤ slice_index offsets (n + 1)

  -- the offsets begin with 0, never fall, and end with the number of edges
  pub record IsOffsets (edges : ℕ) : Type 0 where
    pub some : 0 < length offsets
    pub first : slice_index offsets 0 ≡ 0
    pub rising : IsRisingTo (length offsets - 1)
    pub last : slice_index offsets (length offsets - 1) ≡ edges

  -- the error names the first of these that does not hold, and the first node whose next offset is below its own
  abbrev pub IsOffsetFault : ℕ → TableError → Type 0
  IsOffsetFault edges NoFirstOffset = (length offsets ≡ 0) ⊎ (slice_index offsets 0 ≢ 0)
  IsOffsetFault edges (FallingOffset node) = (slice_index offsets 0 ≡ 0) × (node + 1 < length offsets) × (slice_index offsets (node + 1) < slice_index offsets node) × IsRisingTo node
  IsOffsetFault edges WrongLastOffset = (0 < length offsets) × (slice_index offsets 0 ≡ 0) × IsRisingTo (length offsets - 1) × (slice_index offsets (length offsets - 1) ≢ edges)
  IsOffsetFault edges _ = ⊥

module _ {C : Type 0} (value : C → ℤ) (offsets : List ℕ) (edges : List (ℕ × C)) where
  -- the offsets and the edges are a graph
  pub record IsCompact : Type 0 where
    pub offsets_ok : IsOffsets offsets (length edges)
    pub graph : IsGraph value (length offsets - 1) (λ n. filled (between offsets edges n))

  -- the error is that of the offsets, or it names the first edge that is not sound
  abbrev pub IsCompactFault : TableError → Type 0
  IsCompactFault error = IsOffsetFault offsets (length edges) error ⊎ (IsOffsets offsets (length edges) × IsFirstFault value (length offsets - 1) (between offsets edges) error)
