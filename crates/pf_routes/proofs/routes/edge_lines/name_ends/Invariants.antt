use Rattle.std.proofs.Common.{◌≡◌, map, take}
use Rattle.pf_routes.specs.Internal.NumberedLines.{named_edge, shown_ends}
use Rattle.pf_routes.proofs.routes.edge_lines.name_ends.Given as goal

abbrev pub invariant-loop-edge : goal.invariant-loop-edge
invariant-loop-edge g l = map shown_ends l.named.items ≡ map (named_edge l.names) (take l.edge-index l.edges)
