use Rattle.std.proofs.Common.{rules, arith, ◌≡◌, ◌∙◌, ℤ, pos, Bool, false, not, List, ◌∷◌, []}
use Rattle.std.proofs.lemmas.Int.{ints}
use Rattle.pf_base.proofs.Callers.{graph_of, test_of}
use Rattle.pf_base.proofs.Sources.{gives_chain, YieldsList-from_array}
use Rattle.pf_base.proofs.Reach.{no_negative_edge}
use Rattle.test_searches.proofs.tests.kinds.by_signed.Goals as goal

pub dijkstra-requires-clause-graph : goal.dijkstra-requires-clause-graph
dijkstra-requires-clause-graph c =
    let edges : Bool → List (Bool × ℤ) = λ n. (not n, pos 3) ∷ [] in (
      edges,
      (λ n. n),
      record {
        edges_answered = graph_of edges edges
            (λ x w. search rules)
            (λ x y w e. search rules)
            (λ x w. search rules)
            (λ x r t w k. let is : r ≡ edges x.now = search rules in (search rules, gives_chain (λ it b. (tt, tt, YieldsList-from_array (edges x.now) (b.0 ∙ is)))));
        test_answered = test_of (λ n. n) (λ x y w e. search rules) (λ x w. search rules) (λ x r t w k. (search rules, search rules));
        costs = no_negative_edge _ edges (false ∷ []) (λ x w. (omega (arith, ints), tt));
      },
    )
