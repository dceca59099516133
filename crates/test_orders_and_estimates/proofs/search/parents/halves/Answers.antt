use Rattle.std.proofs.Common.{arith, ◌/◌, ◌<◌, nat_eq}
use Rattle.std.specs.HashMap.{get}
use Rattle.test_orders_and_estimates.proofs.Halves.{falls_more}
use Rattle.test_orders_and_estimates.proofs.search.parents.halves.Goals as goal

pub loop-number-preserved : goal.loop-number-preserved
loop-number-preserved c =
    let v = c.loop-number.invariant in
    let n = c.loop-number.number in
    let half : n / 2 < n = omega (arith, v.positive) in
    record {
      positive = omega (arith, v.positive);
      falls = falls_more (get nat_eq c.loop-number.parents) _ n (n / 2) 1 half c.in_ok-insert.ensures.updates.0 v.falls;
    }
