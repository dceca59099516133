use Rattle.std.proofs.Common.{◌+◌, ◌<◌, length}
use Rattle.std.specs.Prelude.{All}
use Rattle.pf_bench.proofs.jobs.orders.Numbered.all.Given as goal

-- the nodes so far
abbrev pub invariant-nodes : goal.invariant-nodes
invariant-nodes l = All (λ n. n + 1 < length l.rows.offsets.items) l.nodes.items
