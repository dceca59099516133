use Rattle.std.proofs.Common.{rules, ◌≡◌, ◌==◌, true, sym, subst, pos, ◌∷◌, [], nat_eq}
use Rattle.pf_base.proofs.Callers.{nat_refl, nat_test, valued}
use Rattle.pf_base.proofs.Reach.{unsigned_cost}
use Rattle.pf_base.proofs.Tables.{between, compact_graph, nat_successors}
use Rattle.pf_bench.specs.Steps.{ends_after}
use Rattle.pf_bench.proofs.RowEnds.{has_row}
use Rattle.pf_bench.proofs.Shown.{shown_gives}
use Rattle.pf_bench.proofs.jobs.rows.RowsJob.call.Goals as goal

pub bfs_loop-requires-clause-graph : goal.bfs_loop-requires-clause-graph
bfs_loop-requires-clause-graph c =
    let rows = c.args.rows.now in
    let offsets = rows.offsets.items in
    let edges = rows.edges.items in
    let node = has_row offsets edges rows.has_a_node rows.in_range in (
      ends_after offsets edges,
      rw c.in_ok-starts-in-BfsLoop.ensures.one (nat_successors (ends_after offsets edges) (λ x w. let inside = node x.now w in search rules)
          (λ x r t w k. let inside = node x.now w in (search rules, shown_gives (ends_after offsets edges x.now) (λ it b. (search rules, search rules, search rules))))),
    )

pub dfs-requires-clause-graph : goal.dfs-requires-clause-graph
dfs-requires-clause-graph c =
    let rows = c.args.rows.now in
    let offsets = rows.offsets.items in
    let edges = rows.edges.items in
    let node = has_row offsets edges rows.has_a_node rows.in_range in
    let last = c.last_node-goal.result in (
      ends_after offsets edges,
      (λ n. n == last),
      record {
        successors_answered = nat_successors (ends_after offsets edges) (λ x w. let inside = node x.now w in search rules)
            (λ x r t w k. let inside = node x.now w in (search rules, shown_gives (ends_after offsets edges x.now) (λ it b. (search rules, search rules, search rules))));
        test_answered = nat_test (λ n. n == last) (λ x w. search rules) (λ x r t w k. (search rules, search rules));
      },
    )

pub dijkstra-requires-clause-graph : goal.dijkstra-requires-clause-graph
dijkstra-requires-clause-graph c =
    let rows = c.args.rows.now in
    let row = between rows.offsets.items rows.edges.items in (
      (λ n. valued (λ z. pos z) (row n)),
      (λ n. n == c.last_node-goal.result),
      record {
        edges_answered = compact_graph (λ z. pos z) rows.offsets.items rows.edges.items 0 rows.has_a_node rows.in_range rows.rising rows.within
            (λ x l. search rules) (λ x r t l k. (search rules, search rules));
        test_answered = nat_test (λ n. n == c.last_node-goal.result) (λ x w. search rules) (λ x r t w k. (search rules, search rules));
        costs = unsigned_cost nat_eq row (0 ∷ []);
      },
    )

pub dijkstra_all-requires-clause-graph : goal.dijkstra_all-requires-clause-graph
dijkstra_all-requires-clause-graph c =
    let rows = c.args.rows.now in
    let row = between rows.offsets.items rows.edges.items in (
      (λ n. valued (λ z. pos z) (row n)),
      compact_graph (λ z. pos z) rows.offsets.items rows.edges.items 0 rows.has_a_node rows.in_range rows.rising rows.within (λ x l. search rules) (λ x r t l k. (search rules, search rules)),
      unsigned_cost nat_eq row (0 ∷ []),
    )

pub walk_costs_of-requires : goal.walk_costs_of-requires
walk_costs_of-requires c =
    let rows = c.args.rows.now in
    let row = between rows.offsets.items rows.edges.items in
    let walk = c.in_ok-walk-in-DijkstraReach.ensures.graph (λ n. valued (λ z. pos z) (row n))
    (compact_graph (λ z. pos z) rows.offsets.items rows.edges.items 0 rows.has_a_node rows.in_range rows.rising rows.within (λ x l. search rules) (λ x r t l k. (search rules, search rules)))
    (unsigned_cost nat_eq row (0 ∷ [])) in
    ((λ x y e. subst (λ z. nat_eq x z ≡ true) (sym e) (nat_refl x)), ((λ n. valued (λ z. pos z) (row n)), 0, walk))

pub yen-requires-clause-graph : goal.yen-requires-clause-graph
yen-requires-clause-graph c =
    let rows = c.args.rows.now in
    let row = between rows.offsets.items rows.edges.items in (
      (λ n. valued (λ z. pos z) (row n)),
      (λ n. n == c.last_node-goal.result),
      record {
        edges_answered = compact_graph (λ z. pos z) rows.offsets.items rows.edges.items 0 rows.has_a_node rows.in_range rows.rising rows.within
            (λ x l. search rules) (λ x r t l k. (search rules, search rules));
        test_answered = nat_test (λ n. n == c.last_node-goal.result) (λ x w. search rules) (λ x r t w k. (search rules, search rules));
        costs = unsigned_cost nat_eq row (0 ∷ []);
      },
    )
