use Rattle.std.proofs.Common.{◌≡◌, ℕ, List, ◌++◌}
use Rattle.std.specs.List.{flat_map}
use Rattle.pf_routes.specs.Internal.NumberedLines.{numbered_line}
use Rattle.pf_routes.proofs.routes.edge_lines.write_edges.Given as goal

-- the lines of the edges before the block
abbrev pub invariant-loop-edge : goal.invariant-loop-edge
invariant-loop-edge g l = record {
  done : List (ℕ × ℕ × ℕ);
  all : done ++ l.block.items ++ l.edge-iterator ≡ l.fn.chosen;
  lines : l.lines.items ≡ flat_map (numbered_line l.names) done;
}
