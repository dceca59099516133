use Rattle.std.proofs.Common.{◌≡◌, length, take}
use Rattle.pf_orders.specs.Internal.Rounds.{Falls}
use Rattle.pf_orders.proofs.rows.count_row.Given as goal

abbrev pub invariant-targets : goal.invariant-targets
invariant-targets l = record {
  falls : Falls (take l.target-index l.row) l.counts l.fn.counts;
  len : length l.counts ≡ length l.fn.counts;
}
