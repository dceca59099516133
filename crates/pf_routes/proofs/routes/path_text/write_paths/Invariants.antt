-- The lines of the paths so far.
use Rattle.std.proofs.Common.{◌≡◌, take}
use Rattle.pf_routes.proofs.PathText.{lines_of_paths}
use Rattle.pf_routes.proofs.routes.path_text.write_paths.Given as goal

abbrev pub invariant-loop-path : goal.invariant-loop-path
invariant-loop-path g l = l.lines.items ≡ lines_of_paths l.names (take l.path-index l.paths)
