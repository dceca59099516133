use Rattle.std.proofs.Common.{◌≡◌, ℕ, ◌<◌, ◌≤◌, length}
use Rattle.std.specs.Prelude.{slice_index}
use Rattle.pf_assignment.specs.Internal.AssignmentSteps.{holder, IsFlipped}
use Rattle.pf_assignment.proofs.kuhn_munkres.matching.flip_path.Given as goal

-- the rows behind `place` are matched again, and those before it are as they were
abbrev pub invariant-rows : goal.invariant-rows
invariant-rows l = record {
  flipped : IsFlipped (length l.fn.column_of) (length l.fn.row_of) (length l.rows) l.fn.column (slice_index l.fn.column_of) (holder l.fn.row_of) (slice_index l.rows) (slice_index l.places) (slice_index l.column_of) (holder l.row_of) l.column;
  place : l.place ≡ slice_index l.places l.column;
  before : (p : ℕ) → 0 < p → p ≤ l.place → slice_index l.column_of (slice_index l.rows p) ≡ slice_index l.fn.column_of (slice_index l.rows p);
}

abbrev pub decreases-rows : goal.decreases-rows
decreases-rows l = l.place
