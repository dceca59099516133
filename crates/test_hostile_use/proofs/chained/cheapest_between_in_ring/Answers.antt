use Rattle.std.proofs.Common.{rules, ◌≡◌, ◌∙◌, pos, ◌∷◌, [], nat_eq}
use Rattle.pf_base.proofs.Callers.{nat_graph, valued}
use Rattle.pf_base.proofs.Reach.{unsigned_cost}
use Rattle.pf_base.proofs.Sources.{gives_chain, YieldsList-from_array}
use Rattle.test_hostile_use.proofs.ChainLemmas.{down, up, ring_cost_mirror}
use Rattle.test_hostile_use.proofs.chained.cheapest_between_in_ring.Goals as goal

pub dijkstra_bidirectional-requires-clause-graph : goal.dijkstra_bidirectional-requires-clause-graph
dijkstra_bidirectional-requires-clause-graph c =
    let listed = down c.args.last in
    let listed_back = up c.args.last in (
      (λ n. valued (λ z. pos z) (listed n)),
      (λ n. valued (λ z. pos z) (listed_back n)),
      record {
        edges_answered = nat_graph listed (λ x w. search rules)
            (λ x r t w k. let is : r ≡ listed x.now = search rules in (search rules, gives_chain (λ it b. (tt, tt, YieldsList-from_array (listed x.now) (b.0 ∙ is)))));
        previous_answered = nat_graph listed_back (λ x w. search rules)
            (λ x r t w k. let is : r ≡ listed_back x.now = search rules in (search rules, gives_chain (λ it b. (tt, tt, YieldsList-from_array (listed_back x.now) (b.0 ∙ is)))));
        mirror = ring_cost_mirror c.args.last;
        costs = unsigned_cost nat_eq listed (c.args.last ∷ []);
        costs_back = unsigned_cost nat_eq listed_back (0 ∷ []);
      },
    )
