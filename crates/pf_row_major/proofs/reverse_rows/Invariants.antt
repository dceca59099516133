use Rattle.std.proofs.Common.{◌≡◌, ℕ, ◌+◌, ◌-◌, ◌*◌, ◌<◌, ◌≤◌, get_or}
use Rattle.pf_row_major.proofs.reverse_rows.Given as goal

-- the rows so far are turned round, and the others are as they were
abbrev pub invariant-loop-row : goal.invariant-loop-row
invariant-loop-row g l = record {
  done : (r c : ℕ) (d : g.row.C.Denot) → r < l.row → c < l.columns → get_or l.values (r * l.columns + c) d ≡ get_or l.fn.values (r * l.columns + (l.columns - 1 - c)) d;
  left : (r c : ℕ) (d : g.row.C.Denot) → l.row ≤ r → r < l.rows → c < l.columns → get_or l.values (r * l.columns + c) d ≡ get_or l.fn.values (r * l.columns + c) d;
}
