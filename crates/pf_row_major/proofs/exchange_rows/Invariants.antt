use Rattle.std.proofs.Common.{◌≡◌, ℕ, ◌+◌, ◌-◌, ◌*◌, ◌<◌, ◌≤◌, get_or}
use Rattle.pf_row_major.proofs.exchange_rows.Given as goal

-- the rows so far, from both ends, are exchanged, and those between are as they were
abbrev pub invariant-loop-row : goal.invariant-loop-row
invariant-loop-row g l = record {
  above : (r c : ℕ) (d : g.row.C.Denot) → r < l.row → c < l.columns → get_or l.values (r * l.columns + c) d ≡ get_or l.fn.values ((l.rows - 1 - r) * l.columns + c) d;
  below : (r c : ℕ) (d : g.row.C.Denot) → l.rows ≤ r + l.row → r < l.rows → c < l.columns → get_or l.values (r * l.columns + c) d ≡ get_or l.fn.values ((l.rows - 1 - r) * l.columns + c) d;
  left : (r c : ℕ) (d : g.row.C.Denot) → l.row ≤ r → r + l.row < l.rows → c < l.columns → get_or l.values (r * l.columns + c) d ≡ get_or l.fn.values (r * l.columns + c) d;
}
