use Rattle.std.proofs.Common.{rules}
use Rattle.test_edge_lists.proofs.Callers.{nodes_answered}
use Rattle.test_edge_lists.specs.Chosen.{chosen}
use Rattle.pf_base.proofs.Callers.{test_of}
use Rattle.test_hostile_use.proofs.listed.LetterLemmas.{alike, alike_laws}
use Rattle.test_hostile_use.proofs.listed.plain_in_list.Goals as goal

pub plain-requires-clause-graph : goal.plain-requires-clause-graph
plain-requires-clause-graph c =
    let edges = c.args.edges.now in (
      chosen alike (λ e. e.0) (λ e. e.1) edges,
      (λ n. alike n c.args.to),
      record {
        successors_answered = nodes_answered alike_laws (λ e. e.0) (λ e. e.1) edges (λ x w. search rules) (λ x r t w k. (search rules, λ it b. (search rules, search rules, search rules)));
        test_answered = test_of (λ n. alike n c.args.to) (λ x y w e. alike_laws.congr x y c.args.to e) (λ x w. search rules) (λ x r t w k. (search rules, search rules));
      },
    )
