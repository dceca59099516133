use Rattle.std.proofs.Common.{rules, ℕ, Bool, ◌∷◌, [], ◌||◌, pos, nat_eq}
use Rattle.std.proofs.lemmas.Cmp.{nat_eq_equiv}
use Rattle.test_edge_lists.proofs.Callers.{edges_from_answered}
use Rattle.test_edge_lists.specs.Lists.{edges_from, ends_from}
use Rattle.pf_base.proofs.Callers.{nat_test}
use Rattle.pf_base.proofs.Reach.{unsigned_cost}
use Rattle.test_orders_and_estimates.proofs.yen.listed.search_list.Goals as goal

pub walk-walked-requires : goal.walk-walked-requires
walk-walked-requires c =
    let edges = c.args.edges.now in
    let passes : ℕ → Bool = λ n. nat_eq n c.args.goals.0 || nat_eq n c.args.goals.1 in (
      edges_from nat_eq edges (λ z. pos z),
      passes,
      record {
        edges_answered = edges_from_answered nat_eq_equiv edges (λ x w. search rules) (λ x r t w k. (search rules, λ it b. (search rules, search rules, search rules)));
        test_answered = nat_test passes (λ x w. search rules) (λ x r t w k. search rules);
        costs = unsigned_cost nat_eq (ends_from nat_eq edges) (0 ∷ []);
      },
    )

pub yen-gathered-requires-clause-graph : goal.yen-gathered-requires-clause-graph
yen-gathered-requires-clause-graph c =
    let edges = c.args.edges.now in
    let passes : ℕ → Bool = λ n. nat_eq n c.args.goals.0 || nat_eq n c.args.goals.1 in (
      edges_from nat_eq edges (λ z. pos z),
      passes,
      record {
        edges_answered = edges_from_answered nat_eq_equiv edges (λ x w. search rules) (λ x r t w k. (search rules, λ it b. (search rules, search rules, search rules)));
        test_answered = nat_test passes (λ x w. search rules) (λ x r t w k. search rules);
        costs = unsigned_cost nat_eq (ends_from nat_eq edges) (0 ∷ []);
      },
    )
