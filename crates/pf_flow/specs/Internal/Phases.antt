-- What a search for levels finds, and what a phase of augmenting paths does.
use Rattle.std.specs.Prelude.{◌≡◌, ◌<◌, ◌≤ℤ◌, ℕ, length, slice_index}
use Rattle.pf_flow.specs.declared.levels.Levels.{Levels}
use Rattle.pf_residual.specs.Networks.{Network, KeepsCapacities}
use Rattle.pf_residual.specs.Internal.AugmentingPaths.{IsLabelling, TicksWithinRise}
use Rattle.pf_residual.specs.Internal.Levels.{AreLevels}
use Rattle.pf_residual.specs.Internal.CurrentArcs.{AreArcs}

-- the levels of all vertices, with the vertices before them and the arcs that lead on
pub record HoldsLevels {A : Type 0} (N : Network) (found : Levels A) : Type 0 where
  pub levels : AreLevels N (slice_index found.levels.items) (slice_index found.parents.items)
  pub levels_len : length found.levels.items ≡ N.vertices
  pub parents_len : length found.parents.items ≡ N.vertices
  pub arcs : AreArcs N.vertices found.arcs.targets.items found.arcs.places.items found.arcs.ends.items

-- Flow was added along paths of the levels d: the capacities are kept, the total does not fall, the levels stay a labelling, and the ticks rise, by at most as much as their potential.
pub record IsAugmented (d : ℕ → ℕ) (N M : Network) (before after : ℕ) : Type 0 where
  pub kept : KeepsCapacities N M
  pub total : N.total ≤ℤ M.total
  pub labelling : IsLabelling N.vertices N.source M.residual d
  pub progress : before < after
  pub bound : TicksWithinRise d N M before after
