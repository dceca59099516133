-- Steps to a neighbour, axis by axis.
use Rattle.std.specs.Prelude.{Bool, true, false}
use Rattle.pf_base.specs.declared.shift.Shift.{Shift}
use Rattle.pf_base.specs.declared.shift.Shift.TheVariants.{Same}

-- the step changes both the row and the column
abbrev pub is_diagonal : Shift × Shift → Bool
is_diagonal (Same, column) = false
is_diagonal (row, Same) = false
is_diagonal (row, column) = true
