use Rattle.std.proofs.Common.{rules, ap, ℕ, Bool, ◌∷◌, [], ◌||◌, pos, nat_eq}
use borrow.Author.Tests.{eqb-true}
use Rattle.std.proofs.lemmas.Cmp.{nat_eq_equiv}
use Rattle.test_edge_lists.proofs.Callers.{edges_from_answered}
use Rattle.pf_base.proofs.Callers.{nat_test}
use Rattle.pf_base.proofs.Reach.{unsigned_cost}
use Rattle.pf_informed.proofs.Callers.{estimate_of}
use Rattle.test_orders_and_estimates.specs.Listed.{ends_of, edges_of, estimate_of_node}
use Rattle.test_orders_and_estimates.proofs.ListedLemmas.{bounded_twice}
use Rattle.test_orders_and_estimates.proofs.informed.listed.search.Goals as goal

pub astar-requires-clause-graph : goal.astar-requires-clause-graph
astar-requires-clause-graph c =
    let task = c.args.task.now in
    let edges = task.edges.now in
    let least = estimate_of_node task.estimates.now task.bounds.now in
    let passes : ℕ → Bool = λ n. nat_eq n task.goals.0 || nat_eq n task.goals.1 in (
      edges_of edges,
      passes,
      (λ n. pos (least n)),
      record {
        weighted = record {
          edges_answered = edges_from_answered nat_eq_equiv edges (λ x w. search rules) (λ x r t w k. (search rules, λ it b. (search rules, search rules, search rules)));
          test_answered = nat_test passes (λ x w. search rules) (λ x r t w k. search rules);
          costs = unsigned_cost nat_eq (ends_of edges) (task.from ∷ []);
        };
        estimate_answered = estimate_of least (λ x y w e. ap least (eqb-true x y e)) (λ x w. search rules) (λ x r t w k. (search rules, search rules));
        admissible = bounded_twice task.bounds.now edges task.estimates.now task.from task.goals c.requires.first c.requires.second;
      },
    )

pub fringe-requires-clause-graph : goal.fringe-requires-clause-graph
fringe-requires-clause-graph c =
    let task = c.args.task.now in
    let edges = task.edges.now in
    let least = estimate_of_node task.estimates.now task.bounds.now in
    let passes : ℕ → Bool = λ n. nat_eq n task.goals.0 || nat_eq n task.goals.1 in (
      edges_of edges,
      passes,
      (λ n. pos (least n)),
      record {
        weighted = record {
          edges_answered = edges_from_answered nat_eq_equiv edges (λ x w. search rules) (λ x r t w k. (search rules, λ it b. (search rules, search rules, search rules)));
          test_answered = nat_test passes (λ x w. search rules) (λ x r t w k. search rules);
          costs = unsigned_cost nat_eq (ends_of edges) (task.from ∷ []);
        };
        estimate_answered = estimate_of least (λ x y w e. ap least (eqb-true x y e)) (λ x w. search rules) (λ x r t w k. (search rules, search rules));
        admissible = bounded_twice task.bounds.now edges task.estimates.now task.from task.goals c.requires.first c.requires.second;
      },
    )

pub idastar-requires-clause-graph : goal.idastar-requires-clause-graph
idastar-requires-clause-graph c =
    let task = c.args.task.now in
    let edges = task.edges.now in
    let least = estimate_of_node task.estimates.now task.bounds.now in
    let passes : ℕ → Bool = λ n. nat_eq n task.goals.0 || nat_eq n task.goals.1 in (
      edges_of edges,
      passes,
      (λ n. pos (least n)),
      record {
        weighted = record {
          edges_answered = edges_from_answered nat_eq_equiv edges (λ x w. search rules) (λ x r t w k. (search rules, λ it b. (search rules, search rules, search rules)));
          test_answered = nat_test passes (λ x w. search rules) (λ x r t w k. search rules);
          costs = unsigned_cost nat_eq (ends_of edges) (task.from ∷ []);
        };
        estimate_answered = estimate_of least (λ x y w e. ap least (eqb-true x y e)) (λ x w. search rules) (λ x r t w k. (search rules, search rules));
        admissible = bounded_twice task.bounds.now edges task.estimates.now task.from task.goals c.requires.first c.requires.second;
      },
    )

pub astar_bag_collect-requires-clause-graph : goal.astar_bag_collect-requires-clause-graph
astar_bag_collect-requires-clause-graph c =
    let task = c.args.task.now in
    let edges = task.edges.now in
    let least = estimate_of_node task.estimates.now task.bounds.now in
    let passes : ℕ → Bool = λ n. nat_eq n task.goals.0 || nat_eq n task.goals.1 in (
      edges_of edges,
      passes,
      (λ n. pos (least n)),
      record {
        weighted = record {
          edges_answered = edges_from_answered nat_eq_equiv edges (λ x w. search rules) (λ x r t w k. (search rules, λ it b. (search rules, search rules, search rules)));
          test_answered = nat_test passes (λ x w. search rules) (λ x r t w k. search rules);
          costs = unsigned_cost nat_eq (ends_of edges) (task.from ∷ []);
        };
        estimate_answered = estimate_of least (λ x y w e. ap least (eqb-true x y e)) (λ x w. search rules) (λ x r t w k. (search rules, search rules));
        admissible = bounded_twice task.bounds.now edges task.estimates.now task.from task.goals c.requires.first c.requires.second;
      },
    )

pub astar_bag-requires-clause-graph : goal.astar_bag-requires-clause-graph
astar_bag-requires-clause-graph c =
    let task = c.args.task.now in
    let edges = task.edges.now in
    let least = estimate_of_node task.estimates.now task.bounds.now in
    let passes : ℕ → Bool = λ n. nat_eq n task.goals.0 || nat_eq n task.goals.1 in (
      edges_of edges,
      passes,
      (λ n. pos (least n)),
      record {
        weighted = record {
          edges_answered = edges_from_answered nat_eq_equiv edges (λ x w. search rules) (λ x r t w k. (search rules, λ it b. (search rules, search rules, search rules)));
          test_answered = nat_test passes (λ x w. search rules) (λ x r t w k. search rules);
          costs = unsigned_cost nat_eq (ends_of edges) (task.from ∷ []);
        };
        estimate_answered = estimate_of least (λ x y w e. ap least (eqb-true x y e)) (λ x w. search rules) (λ x r t w k. (search rules, search rules));
        admissible = bounded_twice task.bounds.now edges task.estimates.now task.from task.goals c.requires.first c.requires.second;
      },
    )
