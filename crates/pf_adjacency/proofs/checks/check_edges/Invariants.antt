use Rattle.std.proofs.Common.{map, ◌≡◌, ℕ, ◌<◌}
use Rattle.std.specs.Prelude.{Some, slice_get}
use Rattle.pf_adjacency.specs.NumberedEdges.{IsSoundEdge}
use Rattle.pf_adjacency.proofs.checks.check_edges.Given as goal

-- the edges so far are sound
abbrev pub invariant-loop-number : goal.invariant-loop-number
invariant-loop-number g l = (k : ℕ) (edge : ℕ × ℕ × g.row.C.Denot) → k < l.number → slice_get (map g.E.NumberedEdge.ends l.edges) k ≡ Some edge → IsSoundEdge g.C.Number.value l.size edge
