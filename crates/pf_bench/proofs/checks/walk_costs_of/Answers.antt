use Rattle.std.proofs.Common.{rules, ◌≡◌}
use Rattle.pf_bench.proofs.checks.walk_costs_of.Goals as goal

pub loop-item-init : goal.loop-item-init
loop-item-init g c =
    let same : c.into_iter-item-iterator.result.iter ≡ c.args.walk = search rules in
    (rw same c.requires, search rules)
