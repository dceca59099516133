use Rattle.std.proofs.Common.{◌≡◌, take}
use Rattle.std.specs.List.{filter}
use Rattle.pf_residual.specs.Internal.Levels.{leaves}
use Rattle.pf_flow.proofs.cuts.list_cut.Given as goal

-- the flows so far that leave
abbrev pub invariant-loop-edge : goal.invariant-loop-edge
invariant-loop-edge g l = l.edges.items ≡ filter (λ e. leaves l.levels e.0.0 e.0.1) (take l.edge-index l.flows)
