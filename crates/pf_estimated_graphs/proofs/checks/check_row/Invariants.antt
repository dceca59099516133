use Rattle.std.proofs.Common.{ℕ, ◌<◌}
use Rattle.pf_estimated_graphs.specs.EstimatesInTables.{FallsAt}
use Rattle.pf_estimated_graphs.proofs.checks.check_row.Given as goal

-- the estimate is not above the edges so far
abbrev pub invariant-loop-place : goal.invariant-loop-place
invariant-loop-place g l = (k : ℕ) → k < l.place → FallsAt g.C.Number.value (g.G.Graph.places l.graph) l.estimates l.node k
