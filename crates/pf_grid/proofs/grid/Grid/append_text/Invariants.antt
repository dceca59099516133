use Rattle.std.proofs.Common.{◌≡◌}
use Rattle.std.specs.String.{string_bytes}
use Rattle.pf_grid.specs.Texts.{lines_to}
use Rattle.pf_grid.proofs.grid.Grid.append_text.Given as goal

abbrev pub invariant-loop-line : goal.invariant-loop-line
invariant-loop-line g l = string_bytes l.text ≡ lines_to l.self l.present l.absent l.reversed l.line
