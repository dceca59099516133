use Rattle.std.proofs.Common.{◌≡◌, ◌++◌, take}
use Rattle.std.specs.List.{flat_map}
use Rattle.pf_routes.specs.Internal.NumberedLines.{named_line}
use Rattle.pf_routes.proofs.routes.edge_lines.push_lines.Given as goal

abbrev pub invariant-loop-edge : goal.invariant-loop-edge
invariant-loop-edge g l = l.lines.items ≡ l.fn.lines.items ++ flat_map named_line (take l.edge-index l.edge-items)
