use Rattle.std.proofs.Common.{ℕ, ◌<◌}
use Rattle.pf_estimated_graphs.specs.EstimatesInTables.{IsSoundAt}
use Rattle.pf_estimated_graphs.proofs.checks.check_nodes.Given as goal

-- the estimates so far are sound
abbrev pub invariant-loop-node : goal.invariant-loop-node
invariant-loop-node g l = (k : ℕ) → k < l.node → IsSoundAt g.C.Number.value (g.T.Goals.passes l.goals) l.estimates k
