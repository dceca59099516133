use Rattle.std.proofs.Common.{rules, ◌≡◌, ◌∙◌, pos, ◌∷◌, [], nat_eq}
use borrow.Author.Tests.{eqb-true}
use Rattle.pf_base.proofs.Callers.{nat_graph, nat_test, valued}
use Rattle.pf_base.proofs.Reach.{unsigned_cost}
use Rattle.pf_base.proofs.Sources.{gives_chain, YieldsList-from_array}
use Rattle.pf_informed.proofs.Callers.{estimate_of}
use Rattle.test_hostile_use.proofs.ChainLemmas.{down, ring_admissible}
use Rattle.test_hostile_use.proofs.chained.cheapest_in_ring.Goals as goal

pub cheapest-requires-clause-graph : goal.cheapest-requires-clause-graph
cheapest-requires-clause-graph c =
    let listed = down c.args.back in (
      (λ n. valued (λ z. pos z) (listed n)),
      (λ n. nat_eq n 0),
      (λ n. pos n),
      record {
        weighted = record {
          edges_answered = nat_graph listed (λ x w. search rules)
              (λ x r t w k. let is : r ≡ listed x.now = search rules in (search rules, gives_chain (λ it b. (tt, tt, YieldsList-from_array (listed x.now) (b.0 ∙ is)))));
          test_answered = nat_test (λ n. nat_eq n 0) (λ x w. search rules) (λ x r t w k. search rules);
          costs = unsigned_cost nat_eq listed (c.args.last ∷ []);
        };
        estimate_answered = estimate_of (λ n. n) (λ x y w e. eqb-true x y e) (λ x w. search rules) (λ x r t w k. (search rules, search rules));
        admissible = ring_admissible c.args.back c.args.last;
      },
    )
