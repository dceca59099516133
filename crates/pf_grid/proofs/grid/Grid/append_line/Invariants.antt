use Rattle.std.proofs.Common.{◌≡◌, ◌++◌}
use Rattle.std.specs.String.{string_bytes}
use Rattle.pf_grid.specs.Texts.{line_to}
use Rattle.pf_grid.proofs.grid.Grid.append_line.Given as goal

abbrev pub invariant-loop-x : goal.invariant-loop-x
invariant-loop-x g l = string_bytes l.text ≡ string_bytes l.fn.text ++ line_to l.self l.present l.absent l.y l.x
