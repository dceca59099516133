use Rattle.std.proofs.Common.{◌≡◌}
use Rattle.std.specs.Prelude.{slice_index, ◌+ℤ◌, ◌-ℤ◌}
use Rattle.pf_base.specs.Places.{number}
use Rattle.pf_assignment.specs.Internal.AssignmentSteps.{flag}
use Rattle.pf_assignment.proofs.MatchingScan.{IsScannedTo}
use Rattle.pf_assignment.proofs.kuhn_munkres.tree.Tree.scan.Given as goal

-- the columns so far are up to date, the nearest of them is known, and nothing else of the tree changed
abbrev pub invariant-loop-column : goal.invariant-loop-column
invariant-loop-column g l = record {
  scanned : IsScannedTo l.column (λ j. g.C.Number.value l.offset +ℤ number g.C.Number.value l.matching.column_potentials.items j -ℤ (g.W.Weights.table l.weights).at l.row j) l.place (flag l.fn.self.visited.items) (number g.C.Number.value l.fn.self.distances.items) (slice_index l.fn.self.places.items) (number g.C.Number.value l.self.distances.items) (slice_index l.self.places.items) l.nearest;
  rows : l.self.rows.items ≡ l.fn.self.rows.items;
  visited : l.self.visited.items ≡ l.fn.self.visited.items;
}
