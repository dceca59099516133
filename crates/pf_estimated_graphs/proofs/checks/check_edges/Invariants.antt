use Rattle.std.proofs.Common.{ℕ, ◌<◌}
use Rattle.pf_estimated_graphs.specs.EstimatesInTables.{FallsAt}
use Rattle.pf_estimated_graphs.proofs.checks.check_edges.Given as goal

-- the estimates of the nodes so far are not above their edges
abbrev pub invariant-loop-node : goal.invariant-loop-node
invariant-loop-node g l = (n place : ℕ) → n < l.node → FallsAt g.C.Number.value (g.G.Graph.places l.graph) l.estimates n place
