use Rattle.std.proofs.Common.{rules, ℕ, Bool, nat_eq, ◌==◌}
use Rattle.std.proofs.lemmas.Cmp.{nat_eq_equiv}
use Rattle.test_edge_lists.proofs.Callers.{nodes_after_answered}
use Rattle.test_edge_lists.specs.Pairs.{nodes_after}
use Rattle.pf_base.proofs.Callers.{nat_test}
use Rattle.test_searches.proofs.fewest.deepened_in_pairs.Goals as goal

pub iddfs-requires : goal.iddfs-requires
iddfs-requires c =
    let test : ℕ → Bool = λ n. n == c.args.goal in record {
      graph = (
        nodes_after nat_eq c.args.edges.now,
        test,
        record {
          successors_answered = nodes_after_answered nat_eq_equiv c.args.edges.now (λ x w. search rules) (λ x r t w k. (search rules, λ it b. (search rules, search rules, search rules)));
          test_answered = nat_test test (λ x w. search rules) (λ x r t w k. (search rules, search rules));
        },
      );
    }
