-- What the maker of a graph of edges between numbers tests.
use Rattle.std.specs.Prelude.{◌≡◌, ◌<◌, ◌≤◌, ◌<ℤ◌, ℕ, ℤ, pos, List, Some, slice_get}
use Rattle.pf_adjacency.specs.NumberedEdges.{AreSoundEdges, IsSoundEdge}
use Rattle.pf_adjacency.specs.declared.error.AdjacencyError.{AdjacencyError}
use Rattle.pf_adjacency.specs.declared.error.AdjacencyError.TheVariants.{OutOfMemory, SourceOutside, TargetOutside, NegativeCost}

module _ {C : Type 0} (value : C → ℤ) (size : ℕ) where
  -- the error names this number, and what is wrong with this edge
  abbrev pub IsEdgeFaultAt : ℕ → ℕ × ℕ × C → AdjacencyError → Type 0
  IsEdgeFaultAt number edge (SourceOutside n) = (n ≡ number) × (size ≤ edge.0)
  IsEdgeFaultAt number edge (TargetOutside n) = (n ≡ number) × (edge.0 < size) × (size ≤ edge.1)
  IsEdgeFaultAt number edge (NegativeCost n) = (n ≡ number) × (edge.0 < size) × (edge.1 < size) × (value edge.2 <ℤ pos 0)
  IsEdgeFaultAt number edge OutOfMemory = ⊥

  module _ (edges : List (ℕ × ℕ × C)) where
    -- the error names the first edge that is not sound
    pub record IsFirstEdgeFault (error : AdjacencyError) : Type 0 where
      pub number : ℕ
      pub edge : ℕ × ℕ × C
      pub stands : slice_get edges number ≡ Some edge
      pub fault : IsEdgeFaultAt number edge error
      pub before : (k : ℕ) (other : ℕ × ℕ × C) → k < number → slice_get edges k ≡ Some other → IsSoundEdge value size other

    -- the error names the first edge that is not sound, or each is sound and memory was refused
    abbrev pub IsAdjacencyFault : AdjacencyError → Type 0
    IsAdjacencyFault OutOfMemory = AreSoundEdges value size edges
    IsAdjacencyFault (SourceOutside n) = IsFirstEdgeFault (SourceOutside n)
    IsAdjacencyFault (TargetOutside n) = IsFirstEdgeFault (TargetOutside n)
    IsAdjacencyFault (NegativeCost n) = IsFirstEdgeFault (NegativeCost n)
