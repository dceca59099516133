use Rattle.std.proofs.Common.{◌≡◌, ◌≤◌, ℕ, length, take}
use Rattle.std.specs.Prelude.{slice_index}
use Rattle.pf_components.specs.Internal.DisjointSets.{AreNumbered}
use Rattle.pf_components.proofs.node_sets.number_sets.Given as goal

-- the identifiers so far are numbered, and the others have their counts still
abbrev pub invariant-loop-id : goal.invariant-loop-id
invariant-loop-id g l = record {
  wide : length l.counts.items ≡ length l.initial.counts.items;
  left : (id : ℕ) → l.id ≤ id → slice_index l.counts.items id ≡ slice_index l.initial.counts.items id;
  numbered : AreNumbered (take l.id l.initial.counts.items) l.counts.items l.sizes.items;
}
