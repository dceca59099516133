use Rattle.std.proofs.Common.{rules, pos, ◌==◌, ◌∷◌, [], nat_eq}
use Rattle.pf_base.proofs.Callers.{nat_test}
use Rattle.pf_base.proofs.Reach.{unsigned_cost}
use Rattle.pf_base.proofs.Tables.{compact_graph}
use Rattle.test_searches.specs.Compact.{edges_in, row_of}
use Rattle.test_searches.proofs.compact.cheapest_in_compact.Goals as goal

pub dijkstra-requires-clause-graph : goal.dijkstra-requires-clause-graph
dijkstra-requires-clause-graph c = (
  edges_in c.args.offsets.now c.args.targets.now,
  (λ n. n == c.args.to),
  record {
    edges_answered = compact_graph (λ z. pos z) c.args.offsets.now c.args.targets.now c.args.from c.requires.inside c.requires.in_range c.requires.compact.rising c.requires.compact.within
        (λ x l. search rules) (λ x r t l k. (search rules, search rules));
    test_answered = nat_test (λ n. n == c.args.to) (λ x w. search rules) (λ x r t w k. (search rules, search rules));
    costs = unsigned_cost nat_eq (row_of c.args.offsets.now c.args.targets.now) (c.args.from ∷ []);
  },
)

pub returns : goal.returns
unfolding dijkstra-requires-clause-graph
returns c =
    let p = dijkstra-requires-clause-graph (record { before = c.before.before; type_inv = record { offsets = c.type_inv.offsets } }) in
    let e = c.dijkstra.ensures in
    record { best = e.best p.0 p.1 p.2; overflow = e.overflow p.0 p.1 p.2; errors = e.errors }
