use Rattle.std.proofs.Common.{◌≡◌, ◌<◌, List, [], length}
use Rattle.std.specs.Prelude.{MatchOption}
use Rattle.std.specs.List.{AllZip}
use Rattle.pf_matrix.specs.Giving.{GivesAll}
use Rattle.pf_matrix.specs.Rows.{AllOfLength, flat}
use Rattle.pf_matrix.proofs.matrix.Matrix.from_rows.Given as goal

-- the values so far are those of the rows so far, which have one length
abbrev pub invariant-loop-row : goal.invariant-loop-row
invariant-loop-row g l = (lists : List (List g.row.C.Denot)) × AllZip (GivesAll g.IC.IntoIterator.into_iter_gives g.IC.IntoIter.Iterator.next_gives) l.yielded lists
    × (l.values.items ≡ flat lists) × MatchOption l.width (lists ≡ []) (λ w. (0 < length lists) × AllOfLength w lists)
