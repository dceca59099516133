use Rattle.std.proofs.Common.{◌≡◌, ℕ, ◌+◌, ◌*◌, ◌<◌, get_or}
use Rattle.pf_row_major.specs.Parts.{IsCovered}
use Rattle.pf_row_major.proofs.copy_part.Given as goal

-- the rows so far are copied, and what they do not cover is as it was
abbrev pub invariant-loop-row : goal.invariant-loop-row
invariant-loop-row g l = record {
  copied : (r c : ℕ) (d : g.row.C.Denot) → r < l.row → c < l.size.1 → get_or l.values ((l.to.0 + r) * l.columns + (l.to.1 + c)) d ≡ get_or l.part (r * l.part_columns + c) d;
  others : (r c : ℕ) (d : g.row.C.Denot) → c < l.columns → ¬ (IsCovered l.to l.row l.size.1 r c) → get_or l.values (r * l.columns + c) d ≡ get_or l.fn.values (r * l.columns + c) d;
}
