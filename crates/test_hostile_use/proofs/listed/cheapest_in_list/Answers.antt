use Rattle.std.proofs.Common.{rules, refl, ◌∷◌, []}
use Rattle.test_edge_lists.proofs.Callers.{edges_from_answered}
use Rattle.test_edge_lists.proofs.ChosenLemmas.{edges_from-from_zero}
use Rattle.test_edge_lists.specs.Lists.{edges_from}
use Rattle.pf_base.proofs.Callers.{test_of}
use Rattle.pf_informed.proofs.Callers.{estimate_of}
use Rattle.test_hostile_use.proofs.ListLemmas.{zero_admissible}
use Rattle.test_hostile_use.proofs.listed.LetterLemmas.{alike, alike_laws}
use Rattle.test_hostile_use.proofs.listed.cheapest_in_list.Goals as goal

pub cheapest-requires-clause-graph : goal.cheapest-requires-clause-graph
cheapest-requires-clause-graph g c =
    let value = g.C.Number.value in
    let edges = c.args.edges.now in
    let all = c.are_from_zero.ensures (search rules) in (
      edges_from alike edges value,
      (λ n. alike n c.args.to),
      (λ n. value g.C.Zero.zero),
      record {
        weighted = record {
          edges_answered = edges_from_answered alike_laws edges (λ x w. search rules) (λ x r t w k. (search rules, λ it b. (search rules, search rules, search rules)));
          test_answered = test_of (λ n. alike n c.args.to) (λ x y w e. alike_laws.congr x y c.args.to e) (λ x w. search rules) (λ x r t w k. (search rules, search rules));
          costs = edges_from-from_zero alike value edges all (c.args.from ∷ []);
        };
        estimate_answered = estimate_of (λ n. g.C.Zero.zero) (λ x y w e. refl) (λ x w. search rules) (λ x r t w k. (search rules, search rules));
        admissible = zero_admissible alike value edges (c.args.from ∷ []) (λ n. alike n c.args.to) g.C.Zero.zero (g.met.C.Zero.zero_law g.met.C.Integral.exact_law) all;
      },
    )
