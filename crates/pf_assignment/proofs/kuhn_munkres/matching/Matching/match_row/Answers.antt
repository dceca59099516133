use Rattle.std.proofs.Common.{◌≤◌, ◌+◌, ◌<◌, ℕ, arith}
use Rattle.pf_base.proofs.Outcomes.{on_refused, refused_as}
use Rattle.pf_assignment.proofs.kuhn_munkres.matching.Matching.match_row.Goals as goal

-- a tick for each row up to the next one
within_rows : (ticks before count rows : ℕ) → ticks ≤ before + count + 1 → count < rows → ticks ≤ before + rows
within_rows ticks before count rows h l = omega (arith, h, l)

pub returns : goal.returns
returns g c = record {
  matched = c.augment.ensures.matched;
  rows = c.augment.ensures.rows;
  wide = c.in_ok-column.ensures.wide;
  refused = c.augment.ensures.refused;
  ticked = c.in_ok-column.ensures.ticked;
  rounds = within_rows _ _ _ _ c.in_ok-column.ensures.rounds c.requires.next.left;
}

pub augment-requires : goal.augment-requires
augment-requires g c = record { next = c.requires.next; tree = c.in_ok-column.ensures.tree; free = c.in_ok-column.ensures.free }

pub returns-in_err-column : goal.returns-in_err-column
returns-in_err-column g c = record {
  matched = on_refused _ c.from_residual.result _ c.from_residual.ensures.1;
  rows = on_refused _ c.from_residual.result _ c.from_residual.ensures.1;
  wide = c.in_err-column.ensures.wide;
  refused = refused_as _ c.from_residual.result _ c.from_residual.ensures.1 c.in_err-column.ensures.refused;
  ticked = c.in_err-column.ensures.ticked;
  rounds = within_rows _ _ _ _ c.in_err-column.ensures.rounds c.requires.next.left;
}
