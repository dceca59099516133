use Rattle.std.proofs.Common.{◌≡◌, map, take}
use Rattle.pf_routes.specs.Internal.NumberedLines.{shown_ends}
use Rattle.pf_routes.proofs.routes.edge_lines.read_ends.Given as goal

abbrev pub invariant-loop-edge : goal.invariant-loop-edge
invariant-loop-edge g l = l.edges.items ≡ map shown_ends (take l.edge-index l.named)
