use Rattle.std.proofs.Common.{rules, ◌==◌}
use Rattle.pf_base.proofs.Callers.{nat_test}
use Rattle.pf_base.proofs.Tables.{compact_successors}
use Rattle.test_searches.specs.Compact.{nodes_in}
use Rattle.test_searches.proofs.compact.fewest_in_compact.Goals as goal

pub bfs-requires-clause-graph : goal.bfs-requires-clause-graph
bfs-requires-clause-graph c = (
  nodes_in c.args.offsets.now c.args.targets.now,
  (λ n. n == c.args.to),
  record {
    successors_answered = compact_successors c.args.offsets.now c.args.targets.now c.args.starts.now c.requires.inside c.requires.in_range c.requires.compact.rising c.requires.compact.within
        (λ x l. search rules) (λ x r t l k. (search rules, search rules));
    test_answered = nat_test (λ n. n == c.args.to) (λ x w. search rules) (λ x r t w k. (search rules, search rules));
  },
)

pub returns : goal.returns
unfolding bfs-requires-clause-graph
returns c =
    let p = bfs-requires-clause-graph (record { before = c.before.before; type_inv = record { offsets = c.type_inv.offsets; targets = c.type_inv.targets } }) in
    let e = c.bfs.ensures in
    record { best = e.best p.0 p.1 p.2; errors = e.errors }
