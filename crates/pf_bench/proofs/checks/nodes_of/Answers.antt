use Rattle.std.proofs.Common.{rules, ◌≡◌}
use Rattle.pf_bench.proofs.checks.nodes_of.Goals as goal

pub loop-node-init : goal.loop-node-init
loop-node-init g c =
    let same : c.into_iter-node-iterator.result.iter ≡ c.args.walk = search rules in
    (rw same c.requires, search rules)
